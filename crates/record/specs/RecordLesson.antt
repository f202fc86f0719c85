-- A lesson of the car whose record lent words are: document 01, "A lesson", with refusals 18 and 19, and document 02, §12.
-- Assumes nothing.
use Rattle.std.specs.Prelude.{Bool, false, ◌||◌, not, Result, Ok, Err, List, ℕ, eqb, ltb}
use Rattle.kit.specs.Answer.{Answer, gives, refused}
use Rattle.kit.specs.Pick.{pick}
use Rattle.car.specs.declared.Car.{Car}
use Rattle.car.specs.Good.{good_of}
use Rattle.car.specs.Lesson.{Taught, lesson_of, answers_after}
use Rattle.car.specs.Mark.{as_taught, run_of, run_after}
use Rattle.event.specs.declared.refusal.Refusal.{Refusal}
use Rattle.event.specs.Refusal.{refusal_number}
use Rattle.record.specs.declared.Outcome.{Outcome}
use Rattle.record.specs.declared.RunOutcome.{RunOutcome}
use Rattle.record.specs.Layout.{packed}

-- all that a lesson leaves: its refusal, the record's words, the answers, the counts
pub record LessonLeft : Type 0 where
  pub refusal : ℕ
  pub words : List ℕ
  pub answers : List ℕ
  pub accepted : ℕ
  pub refused : ℕ

-- what a result says, with the words and the answers behind it: refused, the counts are 0
abbrev pub lesson_answer : Result Outcome Refusal → List ℕ → List ℕ → LessonLeft
lesson_answer (Ok t) words answers = record { refusal = 0; words = words; answers = answers; accepted = t.accepted; refused = t.refused }
lesson_answer (Err r) words answers = record { refusal = refusal_number r; words = words; answers = answers; accepted = 0; refused = 0 }

-- the record's words after a lesson: "kept" where it was refused, or accepted fewer words than `least`, and else those of its car. So with 0 each
-- lesson that ran writes its car, with 25 for the gap 30; with 1 a lesson of one word that is refused keeps the words as they are
unfoldable pub words_left : ℕ → List ℕ → Taught → List ℕ
words_left least words t = pick (not (eqb t.refusal 0) || ltb t.accepted least) words (packed t.car)

-- of the car that was read, 18 or 19 or what its lesson gives; "car and buffers kept, counts 0" where none was
unfoldable pub lesson_left : ℕ → List ℕ → Answer Car → List ℕ → List ℕ → LessonLeft
lesson_left least words (gives c) events answers =
    record {
      refusal = (lesson_of c events answers).refusal;
      words = words_left least words (lesson_of c events answers);
      answers = answers_after c events answers;
      accepted = (lesson_of c events answers).accepted;
      refused = (lesson_of c events answers).refused;
    }
lesson_left least words (refused n) events answers = record { refusal = n; words = words; answers = answers; accepted = 0; refused = 0 }

-- ---- the same of a lesson that stops where the mark `halt` is passed (document 02, §5), with its seconds and whether one passed it
pub record RunLeft : Type 0 where
  pub refusal : ℕ
  pub words : List ℕ
  pub answers : List ℕ
  pub accepted : ℕ
  pub refused : ℕ
  pub seconds : ℕ
  pub found : Bool

abbrev pub run_answer : Result RunOutcome Refusal → List ℕ → List ℕ → RunLeft
run_answer (Ok t) words answers =
    record { refusal = 0; words = words; answers = answers; accepted = t.accepted; refused = t.refused; seconds = t.seconds; found = t.found }
run_answer (Err r) words answers =
    record { refusal = refusal_number r; words = words; answers = answers; accepted = 0; refused = 0; seconds = 0; found = false }

unfoldable pub run_left : ℕ → ℕ → ℕ → List ℕ → Answer Car → List ℕ → List ℕ → RunLeft
run_left halt mark least words (gives c) events answers =
    record {
      refusal = (run_of halt mark c events answers).refusal;
      words = words_left least words (as_taught (run_of halt mark c events answers));
      answers = run_after halt c events answers;
      accepted = (run_of halt mark c events answers).accepted;
      refused = (run_of halt mark c events answers).refused;
      seconds = (run_of halt mark c events answers).seconds;
      found = (run_of halt mark c events answers).found;
    }
run_left halt mark least words (refused n) events answers =
    record { refusal = n; words = words; answers = answers; accepted = 0; refused = 0; seconds = 0; found = false }

-- as a lesson leaves it
abbrev pub as_lesson : RunLeft → LessonLeft
as_lesson l = record { refusal = l.refusal; words = l.words; answers = l.answers; accepted = l.accepted; refused = l.refused }

-- of a car that may not be good, which the words would give
unfoldable pub ran_left : ℕ → ℕ → ℕ → Car → List ℕ → List ℕ → List ℕ → RunLeft
ran_left halt mark least c words events answers = run_left halt mark least words (pick (good_of c) (gives c) (refused 18)) events answers
