-- Lists of calls: document 01, "A lesson". The functions that a call cites are those of the code's contracts.
-- Assumes nothing.
use Rattle.std.specs.Prelude.{List, [], ◌∷◌, ◌++◌, ℕ, eqb, ltb, length, drop}
use Rattle.kit.specs.Pick.{pick}
use Rattle.car.specs.declared.Car.{Car}
use Rattle.car.specs.Drive.{Driven, step_of, drive_of}
use Rattle.car.specs.Lesson.{Taught, answers_of, taught_of, untaught, lesson_of, answers_after}
use Rattle.record.specs.Layout.{packed}
use Rattle.record.specs.Record.{saved_buffer}
use Rattle.trainer.specs.RecordCall.{Kept, kept_of}

-- one event word driven; a lesson, its words and its answer buffer; the record written into a buffer and read back
pub data Call : Type 0 where
  word : ℕ → Call
  lesson : List ℕ → List ℕ → Call
  keep : List ℕ → Call

-- what a call gives, and its buffer afterwards
pub data Outcome : Type 0 where
  drove : Driven → Outcome
  taught : Taught → List ℕ → Outcome
  kept : Kept → List ℕ → Outcome

-- the contracts of `Car::drive`, `Car::lesson` and `keep`
unfoldable pub outcome : Car → Call → Outcome
outcome c (word w) = drove (drive_of c w)
outcome c (lesson ws buffer) = taught (lesson_of c ws buffer) (answers_after c ws buffer)
outcome c (keep buffer) = kept (kept_of c buffer) (saved_buffer c buffer)

unfoldable pub car_of : Outcome → Car
car_of (drove d) = d.car
car_of (taught t buffer) = t.car
car_of (kept k buffer) = k.car

unfoldable pub refusal_of : Outcome → ℕ
refusal_of (drove d) = d.refusal
refusal_of (taught t buffer) = t.refusal
refusal_of (kept k buffer) = k.refusal

-- "The first call gets the fresh car, and each later one the car that the call before it gave, or kept when refused"
unfoldable pub ends : Car → List Call → Car
ends c [] = c
ends c (k ∷ ks) = ends (car_of (outcome c k)) ks

unfoldable pub outcomes : Car → List Call → List Outcome
outcomes c [] = []
outcomes c (k ∷ ks) = outcome c k ∷ outcomes (car_of (outcome c k)) ks

-- "it ran unless 18 or 19 refused it". "The list's words are those driven singly and those of the lessons that ran, in order"
unfoldable pub ran : Car → Call → List ℕ
ran c (word w) = w ∷ []
ran c (lesson ws buffer) = pick (eqb (lesson_of c ws buffer).refusal 0) ws []
ran c (keep buffer) = []

unfoldable pub words : Car → List Call → List ℕ
words c [] = []
words c (k ∷ ks) = ran c k ++ words (car_of (outcome c k)) ks

-- ---- what the document gives for a call, by its words' checks, the rules, 19 and 20 alone: no good-car test, and a record call leaves the car
unfoldable pub given : Car → Call → Outcome
given c (word w) = drove (step_of c w)
given c (lesson ws buffer) =
    pick (ltb (length buffer) (length ws))
    (taught (untaught c 19) buffer)
    (taught (taught_of c ws) (answers_of c ws ++ drop (length ws) buffer))
given c (keep buffer) =
    pick (ltb (length buffer) 12)
    (kept (record { car = c; refusal = 20 }) buffer)
    (kept (record { car = c; refusal = 0 }) (packed c ++ drop 12 buffer))

-- ---- "The same list without its record calls", and the outcomes without those of record calls
unfoldable pub without_keeps : List Call → List Call
without_keeps [] = []
without_keeps (word w ∷ ks) = word w ∷ without_keeps ks
without_keeps (lesson ws buffer ∷ ks) = lesson ws buffer ∷ without_keeps ks
without_keeps (keep buffer ∷ ks) = without_keeps ks

unfoldable pub without_kept : List Outcome → List Outcome
without_kept [] = []
without_kept (drove d ∷ os) = drove d ∷ without_kept os
without_kept (taught t buffer ∷ os) = taught t buffer ∷ without_kept os
without_kept (kept k buffer ∷ os) = without_kept os
