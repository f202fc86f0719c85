-- A tick of a car that is left alone: D stays, v goes as `next_speed` says, and the car is left alone afterwards.
-- Assumes nothing.
use Rattle.std.specs.Prelude.{Bool, true, false, ◌≡◌, refl, ◌⊎◌, ℕ}
use Rattle.std.proofs.Common.{sym, ◌∙◌, inl, inr}
use Rattle.kit.specs.Pick.{pick, pick_case, and_left, and_right, no}
use Rattle.event.specs.declared.Event.{Event}
use Rattle.event.specs.declared.Event.TheVariants as event
use Rattle.motion.specs.Acceleration.{target, urged, cruising, towards}
use Rattle.motion.specs.Speed.{at_most}
use Rattle.car.specs.declared.Car.{Car}
use Rattle.car.specs.declared.RangeRadar.{RangeRadar}
use Rattle.car.specs.Acceleration.{target_of, acceleration_of}
use Rattle.car.specs.Distance.{ahead, within, close}
use Rattle.car.specs.Drive.{step_of, event_next, is_tick, accepted_tick}
use Rattle.car.specs.Good.{good_of}
use Rattle.car.proofs.GoodLaws.{good}
use Rattle.car.specs.Rules.{range_after, test_due, radar_tested, radar_after, hold_desired, tick_desired, holds_desired, tick_speed, ticked}
use Rattle.car.proofs.StepLaws.{step_good}
use Rattle.history.proofs.HistoryLaws.{Word, took, left, word_view}
use Rattle.settling.specs.Settling.{Unhindered, LeftAlone}
use Rattle.settling.specs.CruiseSpeed.{next_speed, speed_in}

-- ---- the tick's parts
not_ahead : (c : Car) → Unhindered c → ahead c ≡ false
unfolding ahead
not_ahead c (inl e) = rw e
not_ahead c (inr (inl e)) = rw e (search (and_left, and_right))
not_ahead c (inr (inr e)) = rw e (search (and_left, and_right))

module _ (c : Car) (a : LeftAlone c) where
  acceleration_is : c.pedals.brake ≡ 0 → acceleration_of c ≡ towards c.speed c.cruise.desired
  unfolding acceleration_of close within target_of target cruising urged pick
  acceleration_is b = rw (not_ahead c a.unhindered, a.key, b, a.cruise, a.gas)

  desired_is : tick_desired c ≡ c.cruise.desired
  unfolding tick_desired hold_desired pick
  desired_is = rw (a.cruise, a.updown)

  speed_is : c.pedals.brake ≡ 0 → tick_speed c (tick_desired c) ≡ next_speed c.speed c.cruise.desired
  unfolding tick_speed holds_desired next_speed at_most pick
  speed_is b = rw (acceleration_is b, desired_is, a.limiter, a.cruise, a.gas) refl

-- ---- a test of the radar keeps R 0 or 255
range_kept : (ready : Bool) (r : ℕ) → (r ≡ 0) ⊎ (r ≡ 255) → (range_after ready r ≡ 0) ⊎ (range_after ready r ≡ 255)
unfolding range_after pick
range_kept false r e = inr refl
range_kept true r (inl e) = inl (rw e)
range_kept true r (inr e) = inl (rw e)

radar_kept : (c : Car) (ready : Bool) → (c.radar.range ≡ 0) ⊎ (c.radar.range ≡ 255)
    → ((radar_after c ready).range ≡ 0) ⊎ ((radar_after c ready).range ≡ 255)
unfolding radar_after radar_tested
radar_kept c ready e =
    pick_case (λ (r : RangeRadar). (r.range ≡ 0) ⊎ (r.range ≡ 255)) (test_due c) _ _ (λ _. range_kept ready _ e) (λ _. e)

unhindered_kept : (c : Car) (ready : Bool) → Unhindered c → Unhindered (ticked c ready)
unfolding ticked
unhindered_kept c ready (inl e) = inl e
unhindered_kept c ready (inr e) = inr (radar_kept c ready e)

alone_kept : (c : Car) (ready : Bool) → LeftAlone c → LeftAlone (ticked c ready)
unfolding ticked
alone_kept c ready a =
    record {
      key = a.key;
      cruise = a.cruise;
      gas = a.gas;
      updown = a.updown;
      foreback = a.foreback;
      limiter = a.limiter;
      unhindered = unhindered_kept c ready a.unhindered;
    }

-- ---- what n accepted ticks make of c
pub record Ticked (n : ℕ) (c d : Car) : Type 0 where
  pub good : good_of d ≡ true
  pub alone : LeftAlone d
  pub desired : d.cruise.desired ≡ c.cruise.desired
  pub speed : d.speed ≡ speed_in n c.speed c.cruise.desired

-- an accepted tick's word
tick_step : (c : Car) (w : ℕ) → good_of c ≡ true → accepted_tick c w ≡ true → (P : Car → Type 0) → ((ready : Bool) → P (ticked c ready)) → P (step_of c w).car
unfolding event_next is_tick
tick_step c w g t P f = by (word_view c w g)
  where
    of : (e : Event) → is_tick e ≡ true → P (event_next c e)
    of (event.Input i) k = no (sym k)
    of (event.Tick ready) k = f ready

    by : Word c w → P (step_of c w).car
    by (took e _ a) = rw a.next (of e (sym a.tick ∙ t))
    by (left n q) = no (sym t ∙ and_left _ _ n)

pub one_tick : (c : Car) (w : ℕ) → good_of c ≡ true → LeftAlone c → accepted_tick c w ≡ true → Ticked 1 c (step_of c w).car
unfolding ticked speed_in
one_tick c w g a t =
    record {
      good = step_good c w g;
      alone = tick_step c w g t LeftAlone (λ ready. alone_kept c ready a);
      desired = tick_step c w g t (λ (d : Car). d.cruise.desired ≡ c.cruise.desired) (λ _. desired_is c a);
      speed = tick_step c w g t (λ (d : Car). d.speed ≡ next_speed c.speed c.cruise.desired) (λ _. speed_is c a ((good c g).cruise_on a.cruise).brake);
    }
