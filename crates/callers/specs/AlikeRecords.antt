-- What `cruise_alike` promises who links the library: two records that it answers 1 for, and a lesson of both by `cruise_lesson` with the same words and
-- answer buffers that hold the same. Document 02, §9, for records.
-- Assumes nothing.
use Rattle.std.specs.Prelude.{List, [], ◌≡◌, ℕ}
use Rattle.kit.specs.Answer.{Answer, gives, refused}
use Rattle.car.specs.declared.Car.{Car}
use Rattle.record.specs.Record.{read_of}
use Rattle.record.specs.RecordLesson.{LessonLeft}
use Rattle.alike.specs.StayAlike.{pattern, Room}
use Rattle.cruise.specs.Cruise.{alike_answer}
use Rattle.callers.specs.Callers.{cruise_lesson, left}

-- of a record's car: which words are accepted, and whether the clock has room for the words' ticks
unfoldable pub taken : Answer Car → List ℕ → List ℕ
taken (gives c) ws = pattern c ws
taken (refused n) ws = []

unfoldable pub Roomy : Answer Car → List ℕ → Type 0
Roomy (gives c) ws = Room c ws
Roomy (refused n) ws = ⊥

-- what two lessons gave and left: all the same, but for the records, which are alike again
pub record SameLeft (l r : LessonLeft) : Type 0 where
  pub refusal : l.refusal ≡ r.refusal
  pub accepted : l.accepted ≡ r.accepted
  pub refused : l.refused ≡ r.refused
  pub answers : l.answers ≡ r.answers
  pub alike : alike_answer (read_of l.words) (read_of r.words) ≡ 1

pub record AlikeRecords (p q events answers : List ℕ) : Type 0 where
  -- where the same words are accepted
  pub lesson : taken (read_of p) events ≡ taken (read_of q) events → SameLeft (left p (cruise_lesson events answers)) (left q (cruise_lesson events answers))
  -- and they are while both clocks have room
  pub same_taken : Roomy (read_of p) events → Roomy (read_of q) events → taken (read_of p) events ≡ taken (read_of q) events
