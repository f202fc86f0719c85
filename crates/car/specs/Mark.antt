-- A speed mark: document 02, §5, "The event that passed fifty". Events are counted from 1, refused ones too, as the listing counts them.
-- Assumes nothing.
use Rattle.std.specs.Prelude.{Bool, false, ◌&&◌, ◌||◌, List, [], ◌∷◌, ◌++◌, Result, Ok, Err, ℕ, ◌+◌, ltb, leb, length, drop}
use Rattle.kit.specs.Pick.{pick}
use Rattle.event.specs.declared.refusal.Refusal.{Refusal}
use Rattle.event.specs.Refusal.{refusal_number}
use Rattle.car.specs.declared.Car.{Car}
use Rattle.car.specs.declared.lesson.Ran as lesson
use Rattle.car.specs.Drive.{step_of, accepted_tick}
use Rattle.car.specs.Good.{good_of}
use Rattle.car.specs.Lesson.{Taught, driven, answers_of, accepted_of, refused_of}

-- "v .. went from below the mark to the mark or above": an accepted tick that does so
unfoldable pub passes : ℕ → Car → ℕ → Bool
passes mark c w = accepted_tick c w && (ltb c.speed mark && leb mark (step_of c w).car.speed)

-- "the seconds of that lesson that ended at or above it": an accepted tick after which v is at the mark or above, and how many there are
unfoldable pub ends_above : ℕ → Car → ℕ → Bool
ends_above mark c w = accepted_tick c w && leb mark (step_of c w).car.speed

unfoldable pub seconds_of : ℕ → Car → List ℕ → ℕ
seconds_of mark c [] = 0
seconds_of mark c (w ∷ ws) = pick (ends_above mark c w) 1 0 + seconds_of mark (step_of c w).car ws

-- "The search stops at its first find": the words that it drives, up to and with the first that passes the mark, or all; and whether one does
unfoldable pub searched : ℕ → Car → List ℕ → List ℕ
searched mark c [] = []
searched mark c (w ∷ ws) = w ∷ pick (passes mark c w) [] (searched mark (step_of c w).car ws)

unfoldable pub found : ℕ → Car → List ℕ → Bool
found mark c [] = false
found mark c (w ∷ ws) = passes mark c w || found mark (step_of c w).car ws

-- ---- a lesson that stops where the mark `halt` is passed (0: nowhere) and counts the seconds that ended at the mark `mark` or above: what it
-- gives, and its buffer. 18 and 19 as for every lesson
-- the car behind the words driven, how many of them were accepted and refused, how many of their seconds ended at or above a mark, whether
-- one passed the mark that stops it, and the refusal, 0, 18 or 19
pub record Ran : Type 0 where
  pub car : Car
  pub accepted : ℕ
  pub refused : ℕ
  pub seconds : ℕ
  pub found : Bool
  pub refusal : ℕ

abbrev pub run_answer : Car → Result lesson.Ran Refusal → Ran
run_answer c (Ok t) = record { car = t.car; accepted = t.accepted; refused = t.refused; seconds = t.seconds; found = t.found; refusal = 0 }
run_answer c (Err r) = record { car = c; accepted = 0; refused = 0; seconds = 0; found = false; refusal = refusal_number r }

unfoldable pub ran_of : ℕ → ℕ → Car → List ℕ → Ran
ran_of halt mark c ws =
    record {
      car = driven c (searched halt c ws);
      accepted = accepted_of c (searched halt c ws);
      refused = refused_of c (searched halt c ws);
      seconds = seconds_of mark c (searched halt c ws);
      found = found halt c ws;
      refusal = 0;
    }

-- the same as a lesson
abbrev pub as_taught : Ran → Taught
as_taught t = record { car = t.car; accepted = t.accepted; refused = t.refused; refusal = t.refusal }

unfoldable pub unran : Car → ℕ → Ran
unran c refusal = record { car = c; accepted = 0; refused = 0; seconds = 0; found = false; refusal = refusal }

unfoldable pub run_of : ℕ → ℕ → Car → List ℕ → List ℕ → Ran
run_of halt mark c ws buffer =
    pick (good_of c)
    (pick (ltb (length buffer) (length ws)) (unran c 19) (ran_of halt mark c ws))
    (unran c 18)

unfoldable pub run_after : ℕ → Car → List ℕ → List ℕ → List ℕ
run_after halt c ws buffer =
    pick (good_of c)
    (pick (ltb (length buffer) (length ws)) buffer (answers_of c (searched halt c ws) ++ drop (length (searched halt c ws)) buffer))
    buffer
