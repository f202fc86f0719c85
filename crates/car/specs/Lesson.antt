-- A lesson: document 01, "A lesson", and refusals 18 and 19.
-- Assumes nothing.
use Rattle.std.specs.Prelude.{List, [], ◌∷◌, ◌++◌, Bool, ◌||◌, Result, Ok, Err, ℕ, ◌+◌, eqb, ltb, length, drop}
use Rattle.kit.specs.Pick.{pick}
use Rattle.event.specs.declared.refusal.Refusal.{Refusal}
use Rattle.event.specs.Refusal.{refusal_number}
use Rattle.answer.specs.declared.Answer.{Answer}
use Rattle.answer.specs.AnswerWord.{word_of}
use Rattle.motion.specs.Acceleration.{acceleration_code}
use Rattle.car.specs.declared.Car.{Car}
use Rattle.car.specs.declared.lesson.Taught as lesson
use Rattle.car.specs.Drive.{Driven, step_of}
use Rattle.car.specs.Acceleration.{acceleration_of}
use Rattle.car.specs.Distance.{visual, acoustic}
use Rattle.car.specs.Good.{good_of}

-- "one answer word per event: kind 12, bits 0-4 refusal or 0, 5 visual, 6 acoustic, 7-13 a + 60, 14-24 D, the rest 0, all of the car
-- afterwards"
unfoldable pub answering : Driven → Answer
answering d =
    record {
      refusal = d.refusal;
      visual = visual d.car;
      acoustic = acoustic d.car;
      acceleration = acceleration_code (acceleration_of d.car);
      desired = d.car.cruise.desired;
    }

unfoldable pub answer_of : Driven → ℕ
answer_of d = word_of (answering d)

-- ---- words driven one after the other, by their checks and the rules alone: the last car, the answers, the counts
unfoldable pub driven : Car → List ℕ → Car
driven c [] = c
driven c (w ∷ ws) = driven (step_of c w).car ws

-- a number for each word, of what it gives
unfoldable pub each_of : (Driven → ℕ) → Car → List ℕ → List ℕ
each_of f c [] = []
each_of f c (w ∷ ws) = f (step_of c w) ∷ each_of f (step_of c w).car ws

abbrev pub answers_of : Car → List ℕ → List ℕ
answers_of c ws = each_of answer_of c ws

-- 1 for a word that is accepted, and for one that is refused
abbrev pub accepts : Driven → ℕ
accepts d = pick (eqb d.refusal 0) 1 0

abbrev pub refuses : Driven → ℕ
refuses d = pick (eqb d.refusal 0) 0 1

unfoldable pub accepted_of : Car → List ℕ → ℕ
accepted_of c [] = 0
accepted_of c (w ∷ ws) = accepts (step_of c w) + accepted_of (step_of c w).car ws

unfoldable pub refused_of : Car → List ℕ → ℕ
refused_of c [] = 0
refused_of c (w ∷ ws) = refuses (step_of c w) + refused_of (step_of c w).car ws

-- what a lesson gives: the last car, how many words it accepted and refused, and its own refusal, 0, 18 or 19
pub record Taught : Type 0 where
  pub car : Car
  pub accepted : ℕ
  pub refused : ℕ
  pub refusal : ℕ

-- what a result says of a car that was taught: refused, it is kept, and the counts are 0
abbrev pub lesson_answer : Car → Result lesson.Taught Refusal → Taught
lesson_answer c (Ok t) = record { car = t.car; accepted = t.accepted; refused = t.refused; refusal = 0 }
lesson_answer c (Err r) = record { car = c; accepted = 0; refused = 0; refusal = refusal_number r }

-- a lesson that ran
unfoldable pub taught_of : Car → List ℕ → Taught
taught_of c ws = record { car = driven c ws; accepted = accepted_of c ws; refused = refused_of c ws; refusal = 0 }

-- one that did not: "car and buffers kept, counts 0"
unfoldable pub untaught : Car → ℕ → Taught
untaught c refusal = record { car = c; accepted = 0; refused = 0; refusal = refusal }

-- 18 first; 19 "answer buffer shorter than the words: nothing runs"
unfoldable pub lesson_of : Car → List ℕ → List ℕ → Taught
lesson_of c ws buffer =
    pick (good_of c)
    (pick (ltb (length buffer) (length ws)) (untaught c 19) (taught_of c ws))
    (untaught c 18)

-- the buffer afterwards, of a lesson that gives one number for each word: "Answer words past the lesson keep their contents"
unfoldable pub each_after : (Driven → ℕ) → Car → List ℕ → List ℕ → List ℕ
each_after f c ws buffer =
    pick (good_of c)
    (pick (ltb (length buffer) (length ws)) buffer (each_of f c ws ++ drop (length ws) buffer))
    buffer

abbrev pub answers_after : Car → List ℕ → List ℕ → List ℕ
answers_after c ws buffer = each_after answer_of c ws buffer

-- ---- a lesson that gives each word's v too, into a second buffer, for a listing; 19 where one of the two is too short
abbrev pub speed_of : Driven → ℕ
speed_of d = d.car.speed

unfoldable pub trace_short : List ℕ → List ℕ → List ℕ → Bool
trace_short ws answers speeds = ltb (length answers) (length ws) || ltb (length speeds) (length ws)

unfoldable pub trace_of : Car → List ℕ → List ℕ → List ℕ → Taught
trace_of c ws answers speeds =
    pick (good_of c)
    (pick (trace_short ws answers speeds) (untaught c 19) (taught_of c ws))
    (untaught c 18)

-- one of its buffers afterwards
unfoldable pub trace_after : (Driven → ℕ) → Car → List ℕ → Bool → List ℕ → List ℕ
trace_after f c ws short buffer =
    pick (good_of c)
    (pick short buffer (each_of f c ws ++ drop (length ws) buffer))
    buffer
