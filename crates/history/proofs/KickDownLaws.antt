-- What follows for a car that kicks down, one of the list `KickDown`: document 02, §8.
-- Assumes nothing.
use Rattle.std.specs.Prelude.{Bool, false, ◌≡◌, ◌+◌, ◌≤◌, min, pos, ◌≤ℤ◌}
use Rattle.std.proofs.Common.{sym, arith, ne_eqb}
use Rattle.kit.specs.Bounds.{speed_ceiling, most_rise}
use Rattle.kit.specs.Pick.{pick, either}
use Rattle.motion.specs.Acceleration.{signed, speeding, gas_term, pulled}
use Rattle.motion.specs.Speed.{change, moved, at_most}
use Rattle.motion.proofs.KickDownLaws.{pulled_band}
use Rattle.car.specs.declared.Car.{Car}
use Rattle.car.specs.Acceleration.{acceleration_of, KickDown}
use Rattle.car.specs.Rules.{holds_desired, tick_speed, ticked}
use Rattle.car.specs.Standing.{Good}
use Rattle.car.proofs.KickDownLaws.{kick_down}

module _ (c : Car) where
  -- "speeds up by at least 12 tenths, at most 30"
  pub kick_down_band : KickDown c → (pos 12 ≤ℤ signed (acceleration_of c)) × (signed (acceleration_of c) ≤ℤ pos 30)
  kick_down_band k = rw (sym (kick_down c k)) (pulled_band c.pedals.gas k.gas)

  -- S cannot be on there: (d) "S = 1: .. g ≤ 90"
  pub kick_down_limiter : Good c → KickDown c → c.limiter.on ≡ false
  kick_down_limiter g k = either c.limiter.on (λ t. let h = (g.limiter_on t).gas in absurd (omega (arith, k.gas))) (λ t. t)

  -- so that the next tick takes all of it: v rises by 43 at least, (g) by 108 at most, to 5000
  pub kick_down_tick : (ready : Bool) → Good c → KickDown c
      → (min speed_ceiling (c.speed + 43) ≤ (ticked c ready).speed) × ((ticked c ready).speed ≤ c.speed + most_rise)
  unfolding ticked tick_speed holds_desired at_most pick moved change pulled speeding gas_term
  kick_down_tick ready g k =
      let h = k.gas in
      rw (sym (kick_down c k), kick_down_limiter g k, k.cruise, ne_eqb c.pedals.gas 0 (omega arith)) (omega arith, omega arith)
