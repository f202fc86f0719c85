-- A kept D, event by event: document 02, §4. What a tick, the key, the up-down lever and forward do with it, and that a car which has it is an
-- ordinary one.
-- Assumes nothing.
use Rattle.std.specs.Prelude.{Bool, false, ◌||◌, ◌≡◌, ℕ, ◌≤◌, min}
use Rattle.std.proofs.Math.Bool.{true}
use Rattle.std.proofs.Common.{true≢false, sym, ◌∙◌, arith}
use Rattle.std.proofs.Math.Path.{refl}
use Rattle.std.proofs.Math.Dec.{leb}
use borrow.Author.Tests.{ne_eqb, lt-ltb}
use Rattle.kit.specs.Pick.{pick, pick_false, or_right}
use Rattle.car.specs.declared.Car.{Car}
use Rattle.car.specs.Car.{ceiling_of, with_levers, with_cruise}
use Rattle.car.specs.Good.{good_of}
use Rattle.car.proofs.GoodLaws.{good, good_test}
use Rattle.car.specs.Rules.{key_turned, lever_desired, up_down_moved, with_foreback, engages, start_desired, engaged, forward, fore_back_moved, tick_desired, ticked}

module _ (c : Car) where
  -- "A tick with cruise off keeps D"
  pub tick_keeps : (ready : Bool) → c.cruise.on ≡ false → (ticked c ready).cruise.desired ≡ c.cruise.desired
  unfolding ticked tick_desired
  tick_keeps ready e = pick_false _ _ _ e

  -- "the key clears it"
  pub key_clears : (position : ℕ) (ready : Bool) → (key_turned c position ready).cruise.desired ≡ 0
  unfolding key_turned
  key_clears position ready = refl

  -- "The up-down lever with cruise off still takes the present speed,"
  pub lever_takes_speed : (x : ℕ) → 1 ≤ x → c.cruise.on ≡ false → (up_down_moved c x).cruise.desired ≡ min (ceiling_of c.settings) c.speed
  unfolding up_down_moved lever_desired with_cruise with_levers pick
  lever_takes_speed x h e = rw (ne_eqb x 0 (omega arith), e)

  -- "0 at a standstill"
  pub lever_standing : (x : ℕ) → 1 ≤ x → c.cruise.on ≡ false → c.speed ≡ 0 → (up_down_moved c x).cruise.desired ≡ 0
  lever_standing x h e s = lever_takes_speed x h e ∙ omega (arith, s)

  -- "Forward then takes the kept D, at any speed and with the brake released"
  pub forward_takes_kept : c.key ≡ 2 → c.pedals.brake ≡ 0 → 1 ≤ c.cruise.desired
      → (fore_back_moved c 1).cruise ≡ record { on = true; desired = c.cruise.desired; manual = c.cruise.manual }
  unfolding fore_back_moved forward engages start_desired engaged with_foreback with_cruise with_levers pick
  forward_takes_kept k b d =
      rw (k, b, ne_eqb c.cruise.desired 0 (omega arith), lt-ltb 0 c.cruise.desired d, or_right (c.cruise.on || leb 200 c.speed) true refl)

-- the car with cruise off and D d
unfoldable pub keeping : Car → ℕ → Car
keeping c d = with_cruise c (record { on = false; desired = d; manual = c.cruise.manual })

-- "records with D above 0 and cruise off between ticks are ordinary": with the key on and cruise off a car is good with any D up to the ceiling,
-- as soon as it is good with one
pub keeping_good : (c : Car) (d : ℕ) → good_of c ≡ true → c.key ≡ 2 → c.cruise.on ≡ false → d ≤ ceiling_of c.settings
    → good_of (keeping c d) ≡ true
unfolding keeping with_cruise
keeping_good c d h k e b =
    let g = good c h in
    let r = g.ranges in
    let z = g.lever_idle (rw e) in
    good_test _ (record {
      ranges = search r.manual_low;
      lever_idle = λ _. z;
      lever_time = g.lever_time;
      one_pedal = g.one_pedal;
      off = λ q. absurd (q k);
      one_lever = g.one_lever;
      cruise_on = λ t. absurd (true≢false (sym t));
      limiter_on = g.limiter_on;
      button_in = g.button_in;
      not_ready = g.not_ready;
      ready = g.ready;
      tested = g.tested;
      hold = λ t. absurd (true≢false (sym t));
    })
