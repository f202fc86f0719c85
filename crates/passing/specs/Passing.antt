-- The event that passed a mark, and the seconds at or above it: document 02, §5. `passes` and `seconds_of` (car, Mark.antt) say of which words.
-- Assumes nothing.
use Rattle.std.specs.Prelude.{List, [], ◌∷◌, Option, Some, None, Result, Ok, Err, ℕ, ◌+◌}
use Rattle.kit.specs.Pick.{pick}
use Rattle.event.specs.declared.refusal.Refusal.{Refusal}
use Rattle.event.specs.Refusal.{refusal_number}
use Rattle.car.specs.declared.Car.{Car}
use Rattle.car.specs.Drive.{step_of}
use Rattle.car.specs.Good.{good_of}
use Rattle.car.specs.Lesson.{driven}
use Rattle.car.specs.Mark.{passes, seconds_of}
use Rattle.passing.specs.declared.Counted as counted
use Rattle.passing.specs.declared.Marked as marked

-- the number of an event, counted from 1, or never
abbrev pub Passed : Type 0
Passed = Option ℕ

-- the answer's number: that of the event, 0 for "never"
unfoldable pub event_number : Passed → ℕ
event_number (Some n) = n
event_number None = 0

-- an answer moved by the events before its lesson
unfoldable pub later : ℕ → Passed → Passed
later k (Some n) = Some (k + n)
later k None = None

-- the answer of a lesson of two parts, k events in the first: the first part's find, or else the second's
unfoldable pub onward : Passed → ℕ → Passed → Passed
onward (Some n) k q = Some n
onward None k q = later k q

-- ---- "the number of the event at which v first went from below the mark to the mark or above, counting events from 1"
unfoldable pub passed_of : ℕ → Car → List ℕ → Passed
passed_of mark c [] = None
passed_of mark c (w ∷ ws) = pick (passes mark c w) (Some 1) (later 1 (passed_of mark (step_of c w).car ws))

-- ---- the calls, from a car handed in: 18 and "never, 0 seconds" for one that is not good. What each gives, with its refusal, 0 or 18, and what a
-- result says of that
pub record First : Type 0 where
  pub passed : Passed
  pub refusal : ℕ

abbrev pub search_answer : Result Passed Refusal → First
search_answer (Ok p) = record { passed = p; refusal = 0 }
search_answer (Err r) = record { passed = None; refusal = refusal_number r }

unfoldable pub search_of : ℕ → Car → List ℕ → First
search_of mark c ws =
    pick (good_of c)
    (record { passed = passed_of mark c ws; refusal = 0 })
    (record { passed = None; refusal = 18 })

pub record Counted : Type 0 where
  pub car : Car
  pub seconds : ℕ
  pub refusal : ℕ

abbrev pub count_answer : Car → Result counted.Counted Refusal → Counted
count_answer c (Ok t) = record { car = t.car; seconds = t.seconds; refusal = 0 }
count_answer c (Err r) = record { car = c; seconds = 0; refusal = refusal_number r }

unfoldable pub count_of : ℕ → Car → List ℕ → Counted
count_of mark c ws =
    pick (good_of c)
    (record { car = driven c ws; seconds = seconds_of mark c ws; refusal = 0 })
    (record { car = c; seconds = 0; refusal = 18 })

pub record Marked : Type 0 where
  pub car : Car
  pub passed : Passed
  pub seconds : ℕ
  pub refusal : ℕ

abbrev pub mark_answer : Car → Result marked.Marked Refusal → Marked
mark_answer c (Ok t) = record { car = t.car; passed = t.passed; seconds = t.seconds; refusal = 0 }
mark_answer c (Err r) = record { car = c; passed = None; seconds = 0; refusal = refusal_number r }

unfoldable pub mark_of : ℕ → Car → List ℕ → Marked
mark_of mark c ws =
    pick (good_of c)
    (record { car = driven c ws; passed = passed_of mark c ws; seconds = seconds_of mark c ws; refusal = 0 })
    (record { car = c; passed = None; seconds = 0; refusal = 18 })
