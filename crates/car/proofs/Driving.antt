-- One word driven on a car, by the equations that the calls and tests of `drive_input`, `drive_tick` and `drive` give.
-- Assumes nothing.
use Rattle.std.specs.Prelude.{Bool, true, false, ◌≡◌, ℕ, eqb}
use Rattle.std.proofs.Common.{sym, ap, ◌∙◌}
use Rattle.kit.specs.Answer.{gives}
use Rattle.kit.specs.Pick.{pick_true, pick_false}
use Rattle.event.specs.declared.Input.{Input}
use Rattle.event.specs.declared.refusal.Refusal.{Refusal}
use Rattle.event.specs.Refusal.{refusal_number}
use Rattle.event.proofs.RefusalLaws.{number_pos}
use Rattle.event.specs.Words.{kind_of, body_of, ready_of, input_of}
use Rattle.car.specs.declared.Car.{Car}
use Rattle.car.specs.declared.tick.Moved.{Moved}
use Rattle.car.specs.Checks.{input_check}
use Rattle.car.specs.Drive.{Driven, step_of, drive_of}
use Rattle.car.specs.Good.{good_of}
use Rattle.car.specs.LessonShape.{tick_refusal, second_passed, radar_tried}
use Rattle.car.specs.Rules.{test_due, tick_desired, tick_speed, ticked}
use Rattle.car.specs.Standing.{Good}
use Rattle.car.proofs.GoodLaws.{good, good_test}
use Rattle.car.proofs.DriveLaws.{input_refused, tick_refused, tick_taken}
use Rattle.car.proofs.LessonShapeLaws.{tick_due, tick_undue}
use Rattle.car.proofs.StepLaws.{Stepping, went, stayed, stepping, step_good}

pub car_is : {d e : Driven} → d ≡ e → e.car ≡ d.car
car_is q = sym (ap (λ (x : Driven). x.car) q)

pub refusal_is : {d e : Driven} → d ≡ e → e.refusal ≡ d.refusal
refusal_is q = sym (ap (λ (x : Driven). x.refusal) q)

-- a word keeps a good car good
pub step_keeps : (c : Car) (w : ℕ) → Good c → Good (step_of c w).car
step_keeps c w g = good _ (step_good c w (good_test c g))

-- refused by an input's checks, by a tick's
pub input_kept : (c : Car) (w : ℕ) → eqb (kind_of w) 10 ≡ false → (i : Input) → input_of w ≡ gives i → (r : Refusal) → refusal_number r ≡ input_check c i
    → step_of c w ≡ record { car = c; refusal = refusal_number r }
input_kept c w t i h r e = rw e (input_refused c w t i h (λ z. number_pos r _ e z))

module _ (c : Car) (w : ℕ) (t : eqb (kind_of w) 10 ≡ true) (due : Bool) (ed : due ≡ test_due c) where
  pub tick_kept : (r : Refusal) → refusal_number r ≡ tick_refusal c w due → step_of c w ≡ record { car = c; refusal = refusal_number r }
  tick_kept r e = let e' : refusal_number r ≡ tick_refusal c w (test_due c) = rw ed at e in rw e' (tick_refused c w t (λ z. number_pos r _ e' z))

  module _ (z : 0 ≡ tick_refusal c w due) (m : Moved) (em : m ≡ record { desired = tick_desired c; speed = tick_speed c (tick_desired c) })
      (d : Car) (ec : d ≡ second_passed c m.desired m.speed) where
    passed_second : d ≡ second_passed c (tick_desired c) (tick_speed c (tick_desired c))
    passed_second = rw em at ec

    took : (next : Car) → next ≡ ticked c (ready_of (body_of w)) → step_of c w ≡ record { car = next; refusal = 0 }
    took next e = rw e (tick_taken c w t (sym (rw ed at z)))

    pub took_due : due ≡ true → (ready : Bool) → ready ≡ ready_of (body_of w) → (next : Car) → next ≡ radar_tried d ready
        → step_of c w ≡ record { car = next; refusal = 0 }
    took_due y ready er next en = took next (en ∙ rw (passed_second, er) (tick_due c (ready_of (body_of w)) (sym ed ∙ y)))

    pub took_undue : due ≡ false → step_of c w ≡ record { car = d; refusal = 0 }
    took_undue y = took d (passed_second ∙ tick_undue c (ready_of (body_of w)) (sym ed ∙ y))

-- ---- a car by itself
pub bad : (c : Car) (w : ℕ) → good_of c ≡ false → ◌≡◌ {A = Driven} (record { car = c; refusal = 18 }) (drive_of c w)
unfolding drive_of
bad c w g = sym (pick_false _ _ _ g)

pub driven_alone : (c : Car) (w : ℕ) (d : Car) (n : ℕ) → good_of c ≡ true → n ≡ (step_of c w).refusal → d ≡ (step_of c w).car
    → ◌≡◌ {A = Driven} (record { car = d; refusal = n }) (drive_of c w)
unfolding drive_of
driven_alone c w d n g en ed = rw (en, ed) (sym (pick_true _ _ _ g))

-- a word that a refusal's number refuses keeps the car
pub refused_alone : (c : Car) (w : ℕ) (r : Refusal) → good_of c ≡ true → refusal_number r ≡ (step_of c w).refusal
    → ◌≡◌ {A = Driven} (record { car = c; refusal = refusal_number r }) (drive_of c w)
refused_alone c w r g en = by (stepping c w)
  where
    by : Stepping c w → ◌≡◌ {A = Driven} (record { car = c; refusal = refusal_number r }) (drive_of c w)
    by (went e h i k z q) = number_pos r _ en (ap (λ (x : Driven). x.refusal) q)
    by (stayed n q) = driven_alone c w c _ g en (car_is q)
