-- The loop's shapes are the definitions: a tick by its parts, what a car shows while v, D and the radar stay, an answer with its refusal, and
-- buffers filled as far as they reach.
-- Assumes nothing.
use Rattle.std.specs.Prelude.{Bool, true, false, ◌&&◌, List, [], ◌∷◌, ◌++◌, ◌≡◌, refl, ℕ, ◌+◌, ◌-◌, ◌%◌, ◌^◌, ◌≤◌, ◌<◌, eqb, length, drop}
use Rattle.std.proofs.Common.{sym, ◌∙◌, arith}
use Rattle.std.proofs.Math.Path.{ap}
use Rattle.std.proofs.Math.Dec.{leb}
use Rattle.kit.specs.Pick.{pick, pick_true, pick_false, and_left, and_next}
use Rattle.answer.specs.AnswerWord.{word_of, with_refusal}
use Rattle.answer.proofs.AnswerWordLaws.{word_fits, refused_word}
use Rattle.motion.specs.Acceleration.{acceleration_code}
use Rattle.motion.specs.Speed.{change, moved, at_most}
use Rattle.car.specs.declared.Car.{Car}
use Rattle.car.specs.Drive.{Driven, step_of}
use Rattle.car.specs.declared.tick.Moved.{Moved}
use Rattle.car.specs.Acceleration.{target_of, acceleration_of}
use Rattle.car.specs.Car.{with_radar}
use Rattle.car.specs.Distance.{secure_distance, ahead, within, close, visual, acoustic}
use Rattle.car.specs.Lesson.{answering, answer_of, each_of}
use Rattle.car.proofs.LessonLaws.{answering_fits}
use Rattle.car.specs.LessonShape.{accepted_answer, second_passed, radar_tried, over_of}
use Rattle.car.specs.Rules.{test_due, radar_after, hold_desired, tick_desired, holds_desired, tick_speed, ticked}
use Rattle.car.specs.Standing.{Ranges}

-- ---- a tick by its parts
tick_of : (c : Car) (ready due : Bool) → test_due c ≡ due
    → pick due (radar_tried (second_passed c (tick_desired c) (tick_speed c (tick_desired c))) ready) (second_passed c (tick_desired c) (tick_speed c (tick_desired c)))
    ≡ ticked c ready
unfolding ticked second_passed radar_tried with_radar radar_after pick
tick_of c ready true e = rw e
tick_of c ready false e = rw e

pub tick_due : (c : Car) (ready : Bool) → test_due c ≡ true
    → radar_tried (second_passed c (tick_desired c) (tick_speed c (tick_desired c))) ready ≡ ticked c ready
unfolding pick
tick_due c ready e = tick_of c ready true e

pub tick_undue : (c : Car) (ready : Bool) → test_due c ≡ false → second_passed c (tick_desired c) (tick_speed c (tick_desired c)) ≡ ticked c ready
unfolding pick
tick_undue c ready e = tick_of c ready false e

-- ---- a second that leaves v and D leaves what a car shows
pub same_acceleration : (c : Car) → acceleration_of (second_passed c c.cruise.desired c.speed) ≡ acceleration_of c
unfolding second_passed acceleration_of target_of close within ahead secure_distance
same_acceleration c = refl

pub same_answer : (c : Car) → accepted_answer (second_passed c c.cruise.desired c.speed) ≡ accepted_answer c
unfolding accepted_answer answer_of answering second_passed acceleration_of target_of close visual acoustic within ahead secure_distance
same_answer c = refl

-- ---- an answer with its refusal
pub answer_adds : (d : Driven) → d.refusal ≤ 31 → Ranges d.car → (accepted_answer d.car + d.refusal) % 2 ^ 32 ≡ answer_of d
unfolding accepted_answer answer_of answering with_refusal
answer_adds d h r =
    let e = refused_word (answering (record { refusal = 0; car = d.car })) d.refusal refl in
    let f = word_fits (answering d) (answering_fits d h r) in
    omega (arith, e, f)

pub accepted_fits : (c : Car) → Ranges c → accepted_answer c < 2 ^ 32
unfolding accepted_answer answer_of
accepted_fits c r = word_fits _ (answering_fits (record { refusal = 0; car = c }) (omega arith) r)

-- what is written of a car whose figures are known
pub accepted_written : (c : Car) (v s : Bool) (code w : ℕ) → Ranges c → v ≡ visual c → s ≡ acoustic c → code ≡ acceleration_code (acceleration_of c)
    → w ≡ word_of (record { refusal = 0; visual = v; acoustic = s; acceleration = code; desired = c.cruise.desired }) % 2 ^ 32 → w ≡ accepted_answer c
unfolding accepted_answer answer_of answering
accepted_written c v s code w r ev es ec e =
    let f = accepted_fits c r in
    let n : word_of (record { refusal = 0; visual = v; acoustic = s; acceleration = code; desired = c.cruise.desired }) ≡ accepted_answer c = rw (ev, es, ec) refl in
    omega (arith, e, n, f)

-- ---- D and v after a second
module _ (c : Car) where
  abbrev limited : ℕ
  limited = at_most c.limiter.on c.limiter.limit (moved c.speed (change (acceleration_of c)))

  desired_off : c.cruise.on ≡ false → tick_desired c ≡ c.cruise.desired
  unfolding tick_desired
  desired_off o = pick_false _ _ _ o

  desired_on : c.cruise.on ≡ true → tick_desired c ≡ hold_desired c (c.now + 1 - c.levers.time)
  unfolding tick_desired
  desired_on o = pick_true _ _ _ o

  speed_off : (d : ℕ) → c.cruise.on ≡ false → tick_speed c d ≡ limited
  unfolding tick_speed holds_desired at_most
  speed_off d o = pick_false _ _ _ (and_left _ _ (and_left _ _ o))

  speed_on : (d : ℕ) → c.cruise.on ≡ true → tick_speed c d ≡ at_most (eqb c.pedals.gas 0 && leb c.speed d) d limited
  unfolding tick_speed holds_desired
  speed_on d o = ap (λ (b : Bool). at_most (b && leb c.speed d) d limited) (and_next c.cruise.on (eqb c.pedals.gas 0) o)

  pub moved_off : (v : ℕ) → c.cruise.on ≡ false → v ≡ limited
      → ◌≡◌ {A = Moved} (record { desired = c.cruise.desired; speed = v }) (record { desired = tick_desired c; speed = tick_speed c (tick_desired c) })
  moved_off v o e = let p = desired_off o in let q = speed_off (tick_desired c) o in cc

  pub moved_on : (d v : ℕ) → c.cruise.on ≡ true → d ≡ hold_desired c (c.now + 1 - c.levers.time)
      → v ≡ at_most (eqb c.pedals.gas 0 && leb c.speed d) d limited
      → ◌≡◌ {A = Moved} (record { desired = d; speed = v }) (record { desired = tick_desired c; speed = tick_speed c (tick_desired c) })
  moved_on d v o e f =
      let p : tick_desired c ≡ d = desired_on o ∙ sym e in
      let q : tick_speed c (tick_desired c) ≡ v = ap (tick_speed c) p ∙ speed_on d o ∙ sym f in
      cc

-- ---- a buffer with room for the lesson
pub over_room : (f : Driven → ℕ) (c : Car) (ws buffer : List ℕ) → length ws ≤ length buffer → over_of f c ws buffer ≡ each_of f c ws ++ drop (length ws) buffer
unfolding over_of each_of
over_room f c [] buffer h = refl
over_room f c (w ∷ ws) [] h = absurd (omega arith)
over_room f c (w ∷ ws) (b ∷ bs) h = ap (λ (x : List ℕ). f (step_of c w) ∷ x) (over_room f (step_of c w).car ws bs (omega arith))

-- and one with none
pub over_none : (f : Driven → ℕ) (c : Car) (ws : List ℕ) → over_of f c ws [] ≡ []
unfolding over_of
over_none f c [] = refl
over_none f c (w ∷ ws) = refl
