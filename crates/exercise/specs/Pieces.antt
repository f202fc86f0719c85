-- A listing made piece by piece: what a turn and the end give, and the text of a file's pieces one after the other.
-- Assumes nothing.
use Rattle.std.specs.Prelude.{Bool, ◌||◌, not, List, [], ◌∷◌, ◌++◌, ℕ, ◌+◌, ◌*◌, ◌≤◌, eqb, ltb, length, take, drop}
use Rattle.kit.specs.Answer.{Answer, gives, refused}
use Rattle.kit.specs.Pick.{pick}
use Rattle.car.specs.declared.Car.{Car}
use Rattle.car.specs.Good.{good_of}
use Rattle.car.specs.Lesson.{driven}
use Rattle.settings.specs.SettingsWord.{start_of}
use Rattle.wire.specs.Wire.{word_at, words_of}
use Rattle.listing.specs.Listing.{refused_text}
use Rattle.exercise.specs.declared.Place.{Place}
use Rattle.exercise.specs.declared.Stage.{Stage}
use Rattle.exercise.specs.declared.Stage.TheVariants.{Awaited, Driving, Ended}
use Rattle.exercise.specs.declared.Turned.{Turned}
use Rattle.exercise.specs.Exercise.{head_text, events_text}

-- a turn: the stage behind it, how many bytes it used, its text
pub record Turn : Type 0 where
  pub stage : Stage
  pub used : ℕ
  pub text : List ℕ

unfoldable pub idle : Stage → Turn
idle s = record { stage = s; used = 0; text = [] }

-- ---- events: at most 1,024 words of the bytes
unfoldable pub driven_turn : Place → List ℕ → Turn
driven_turn p ws =
    record {
      stage = Driving (record { car = driven p.car ws; number = p.number + length ws });
      used = 4 * length ws;
      text = events_text p.number p.car ws;
    }

-- nothing is driven where a number would pass 2^64 - 1, or the car is not good
unfoldable pub stuck : Place → List ℕ → Bool
stuck p ws = ltb 18446744073709551615 (p.number + length ws) || not (good_of p.car)

unfoldable pub words_turn : Place → List ℕ → Turn
words_turn p ws = pick (stuck p ws) (idle (Driving p)) (driven_turn p ws)

unfoldable pub events_turn : Place → List ℕ → Turn
events_turn p bs = words_turn p (take 1024 (words_of bs))

-- ---- the settings word
unfoldable pub headed : Turn → Turn
headed t = record { stage = t.stage; used = 4 + t.used; text = head_text ++ t.text }

unfoldable pub started_turn : Answer Car → List ℕ → Turn
started_turn (gives c) bs = headed (events_turn (record { car = c; number = 1 }) (drop 4 bs))
started_turn (refused n) bs = record { stage = Ended; used = length bs; text = refused_text n }

-- ---- a turn over the bytes that have come and were not used
unfoldable pub turn_of : Stage → List ℕ → Turn
turn_of Awaited bs = pick (ltb (length bs) 4) (idle Awaited) (started_turn (start_of (word_at bs 0)) bs)
turn_of (Driving p) bs = events_turn p bs
turn_of Ended bs = record { stage = Ended; used = length bs; text = [] }

-- the end of the file, after which so many bytes were not used
unfoldable pub cut_text : ℕ → List ℕ
cut_text held = pick (eqb held 0) [] (refused_text 21)

unfoldable pub close_text : Stage → ℕ → List ℕ
close_text Awaited held = refused_text 17
close_text (Driving p) held = cut_text held
close_text Ended held = []

-- ---- the pieces of a file, as a program reads them: each goes behind the bytes that the turn before did not use
unfoldable pub pieces_text : Stage → List ℕ → List (List ℕ) → List ℕ
pieces_text s held [] = close_text s (length held)
pieces_text s held (p ∷ ps) =
    (turn_of s (held ++ p)).text ++ pieces_text (turn_of s (held ++ p)).stage (drop (turn_of s (held ++ p)).used (held ++ p)) ps

-- the file that the pieces are
unfoldable pub whole : List (List ℕ) → List ℕ
whole [] = []
whole (p ∷ ps) = p ++ whole ps

-- none is longer than 4,096 bytes: behind up to three bytes that were kept it is worked off in one turn
abbrev pub Short : List (List ℕ) → Type 0
Short [] = Unit {0}
Short (p ∷ ps) = (length p ≤ 4096) × Short ps

-- ---- as the functions answer, whose text stands in a slice; with less than 65,600 bytes nothing is done
unfoldable pub turn_in : List ℕ → Stage → List ℕ → Turn
turn_in out s bs = pick (ltb (length out) 65600) (idle s) (turn_of s bs)

unfoldable pub close_in : List ℕ → Stage → ℕ → List ℕ
close_in out s held = pick (ltb (length out) 65600) [] (close_text s held)

-- a turn whose text starts at an index
unfoldable pub answered_at : ℕ → Turn → Turned
answered_at at t = record { stage = t.stage; used = t.used; end = at + length t.text }
