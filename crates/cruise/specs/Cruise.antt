-- What each function of the library gives and leaves. A car crosses as the twelve words of its record: `gives c` where the words handed
-- over are an accepted record, of the car c, and `refused n` where they are not (18). A record that holds the gap 30 gives a car with 25 (document 02,
-- §12): its words differ from those of its car, so that it matters whether they are kept or written.
-- Assumes nothing.
use Rattle.std.specs.Prelude.{false, Result, Ok, Err, List, ℕ, eqb, Float, ℤ, Option, Some, None}
use Rattle.kit.specs.Answer.{Answer, gives, refused, number_of}
use Rattle.kit.specs.Pick.{pick}
use Rattle.event.specs.Words.{bit_of}
use Rattle.motion.specs.Acceleration.{signed}
use Rattle.car.specs.declared.Car.{Car}
use Rattle.car.specs.Figures.{Figures, figures_of}
use Rattle.car.specs.Drive.{drive_of}
use Rattle.record.specs.Layout.{packed}
use Rattle.record.specs.Record.{saved_refusal, saved_buffer}
use Rattle.alike.specs.Alike.{alike_of}
use Rattle.event.specs.declared.refusal.Refusal.{Refusal}
use Rattle.event.specs.Refusal.{refusal_number}
use Rattle.passing.specs.declared.Marked as marked
use Rattle.passing.specs.Passing.{event_number, mark_of}
use Rattle.lever.specs.Fewest.{Moves, turned_away}
use Rattle.lever.specs.FewestShape.{fewest_of}
use Rattle.sighting.specs.declared.Sighting.{Sighting}
use Rattle.sighting.specs.declared.Sighting.TheVariants.{Vehicle, Free, Fault}
use Rattle.sighting.specs.Sighting.{seen_word}
use Rattle.scene.specs.See.{Saw, see_of}

-- the refusal, and the words of the record's buffer afterwards
pub record Left : Type 0 where
  pub refusal : ℕ
  pub words : List ℕ

-- cruise_fresh: the car that the settings word starts, or 17; then 20
unfoldable pub fresh_left : List ℕ → Answer Car → Left
fresh_left words (gives c) = record { refusal = saved_refusal c words; words = saved_buffer c words }
fresh_left words (refused n) = record { refusal = n; words = words }

-- the record's words after one event: those of the car that it gave, or kept where it was refused
unfoldable pub event_left : List ℕ → ℕ → Car → List ℕ
event_left words refusal c = pick (eqb refusal 0) (packed c) words

-- cruise_drive: 18, then the word's checks
unfoldable pub drive_left : List ℕ → Answer Car → ℕ → Left
drive_left words (gives c) word = record { refusal = (drive_of c word).refusal; words = event_left words (drive_of c word).refusal (drive_of c word).car }
drive_left words (refused n) word = record { refusal = n; words = words }

-- the figures of a record's car: zeros where no car was read
unfoldable pub figures_read : Answer Car → Figures
figures_read (gives c) = figures_of c
figures_read (refused n) =
    record {
      refusal = n;
      speed = 0;
      desired = 0;
      acceleration = record { slows = false; size = 0 };
      visual = false;
      acoustic = false;
      distance = 0;
    }

-- figures as numbers
pub record Dials : Type 0 where
  pub refusal : ℕ
  pub speed : ℕ
  pub desired : ℕ
  pub acceleration : ℤ
  pub visual : ℕ
  pub acoustic : ℕ
  pub distance : ℕ

-- cruise_figures
unfoldable pub dials_of : Figures → Dials
dials_of f =
    record {
      refusal = f.refusal;
      speed = f.speed;
      desired = f.desired;
      acceleration = signed f.acceleration;
      visual = bit_of f.visual;
      acoustic = bit_of f.acoustic;
      distance = f.distance;
    }

-- cruise_alike: the refusal of the first record that is refused, and 1 or 0
unfoldable pub alike_refusal : Answer Car → Answer Car → ℕ
alike_refusal (gives a) b = number_of b
alike_refusal (refused n) b = n

unfoldable pub alike_answer : Answer Car → Answer Car → ℕ
alike_answer (gives a) (gives b) = bit_of (alike_of a b)
alike_answer (gives a) (refused n) = 0
alike_answer (refused n) b = 0

-- cruise_mark: the number of the event that passed the mark, 0 for never, and the seconds at or above it; zeros where no car was read
pub record MarkLeft : Type 0 where
  pub refusal : ℕ
  pub event : ℕ
  pub seconds : ℕ

-- what a result says
abbrev pub mark_found : Result marked.Marked Refusal → MarkLeft
mark_found (Ok m) = record { refusal = 0; event = event_number m.passed; seconds = m.seconds }
mark_found (Err r) = record { refusal = refusal_number r; event = 0; seconds = 0 }

unfoldable pub mark_left : ℕ → Answer Car → List ℕ → MarkLeft
mark_left mark (gives c) words =
    record {
      refusal = (mark_of mark c words).refusal;
      event = event_number (mark_of mark c words).passed;
      seconds = (mark_of mark c words).seconds;
    }
mark_left mark (refused n) words = record { refusal = n; event = 0; seconds = 0 }

-- cruise_moves: the answer to the record's car, 18 where there is none
abbrev pub MovesLeft : Type 0
MovesLeft = Moves

unfoldable pub moves_left : Answer Car → ℕ → MovesLeft
moves_left (gives c) wanted = fewest_of c wanted
moves_left (refused n) wanted = turned_away n

-- a sighting as its kind and two floats: 0 a vehicle, 1 a free road, 2 a fault; any other kind is a fault of the caller, refused with 1, "no such kind"
unfoldable pub sighting_of : ℕ → Float → Float → Answer Sighting
sighting_of kind metres kmh =
    pick (eqb kind 0) (gives (Vehicle metres kmh))
    (pick (eqb kind 1) (gives Free)
    (pick (eqb kind 2) (gives Fault)
    (refused 1)))

unfoldable pub handed_word : Answer Sighting → Answer (Option ℕ)
handed_word (gives s) = seen_word s
handed_word (refused n) = refused n

-- cruise_sighting: 1, then 22 and 23; and the event's word, 0 where there is no event
pub record SightingLeft : Type 0 where
  pub refusal : ℕ
  pub word : ℕ

unfoldable pub sighting_left : Answer (Option ℕ) → SightingLeft
sighting_left (gives (Some w)) = record { refusal = 0; word = w }
sighting_left (gives None) = record { refusal = 0; word = 0 }
sighting_left (refused n) = record { refusal = n; word = 0 }

-- with no event, at a fault, they are kept too
unfoldable pub saw_left : List ℕ → Saw → Left
saw_left words s = record { refusal = s.refusal; words = pick s.fault words (event_left words s.refusal s.car) }

-- cruise_see: 18, then 1, then 22 and 23, then 4 and 14
unfoldable pub see_left : List ℕ → Answer Car → Answer Sighting → Left
see_left words (gives c) (gives s) = saw_left words (see_of c s)
see_left words (gives c) (refused n) = record { refusal = n; words = words }
see_left words (refused n) a = record { refusal = n; words = words }
