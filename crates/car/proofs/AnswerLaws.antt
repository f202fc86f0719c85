-- The answer word's fields read back: document 01, "A lesson".
-- Assumes nothing.
use Rattle.std.specs.Prelude.{true, ◌≡◌, ℕ, ◌/◌, ◌%◌, ◌^◌, ◌≤◌, pos, ◌+ℤ◌}
use Rattle.std.proofs.Common.{ap, ◌∙◌, arith}
use Rattle.event.specs.Words.{bit_of}
use Rattle.answer.proofs.AnswerWordLaws.{word_answers, is_refusal, is_visual, is_acoustic, is_acceleration, is_desired}
use Rattle.motion.specs.Acceleration.{signed}
use Rattle.motion.proofs.SignedLaws.{code_signed}
use Rattle.car.specs.declared.Car.{Car}
use Rattle.car.specs.Drive.{Driven, step_of}
use Rattle.car.specs.Acceleration.{acceleration_of}
use Rattle.car.proofs.AccelerationLaws.{acceleration_size}
use Rattle.car.specs.Distance.{visual, acoustic}
use Rattle.car.specs.Good.{good_of}
use Rattle.car.proofs.GoodLaws.{good_ranges}
use Rattle.car.specs.Lesson.{answering, answer_of}
use Rattle.car.proofs.LessonLaws.{refusal_le, answering_fits}
use Rattle.car.specs.Standing.{Ranges}
use Rattle.car.proofs.StepLaws.{step_good}

-- "kind 12, bits 0-4 refusal or 0, 5 visual, 6 acoustic, 7-13 a + 60, 14-24 D, the rest 0, all of the car afterwards"
pub record Shows (d : Driven) (word : ℕ) : Type 0 where
  pub kind : word / 2 ^ 28 ≡ 12
  pub refusal : word % 2 ^ 5 ≡ d.refusal
  pub visual : word / 2 ^ 5 % 2 ≡ bit_of (visual d.car)
  pub acoustic : word / 2 ^ 6 % 2 ≡ bit_of (acoustic d.car)
  pub acceleration : pos (word / 2 ^ 7 % 2 ^ 7) ≡ signed (acceleration_of d.car) +ℤ pos 60
  pub desired : word / 2 ^ 14 % 2 ^ 11 ≡ d.car.cruise.desired
  pub zeros : word / 2 ^ 25 % 2 ^ 3 ≡ 0

answer_shows : (d : Driven) → d.refusal ≤ 31 → Ranges d.car → Shows d (answer_of d)
unfolding answer_of answering
answer_shows d h r =
    let f = answering_fits d h r in
    let a = word_answers (answering d) f in
    record {
      kind = a.kind;
      refusal = is_refusal (answering d) f;
      visual = is_visual (answering d) f;
      acoustic = is_acoustic (answering d) f;
      acceleration = ap pos (is_acceleration (answering d) f) ∙ code_signed _ (acceleration_size d.car r);
      desired = is_desired (answering d) f;
      zeros = a.zeros;
    }

-- of every word and every good car, the answer word shows the refusal and the figures of the car afterwards
pub step_shows : (c : Car) (w : ℕ) → good_of c ≡ true → Shows (step_of c w) (answer_of (step_of c w))
step_shows c w g = answer_shows (step_of c w) (omega (arith, refusal_le c w)) (good_ranges _ (step_good c w g))
