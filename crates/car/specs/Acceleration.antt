-- The acceleration a of a car: document 01, "Rules of each event".
-- Assumes nothing.
use Rattle.std.specs.Prelude.{true, not, ◌≡◌, ℕ, ◌≤◌, ◌<◌, eqb, ltb}
use Rattle.kit.specs.Pick.{pick}
use Rattle.motion.specs.declared.Acceleration.{Acceleration}
use Rattle.motion.specs.Acceleration.{speeding, braked, pulled, backed_off, target, cruising}
use Rattle.car.specs.declared.Car.{Car}
use Rattle.car.specs.Distance.{secure_distance, ahead, close}

-- "target X = min(D, W) if ahead, else D"
unfoldable pub target_of : Car → ℕ
target_of c = target (ahead c) c.cruise.desired c.radar.lead

-- "Acceleration a, first that fits": key not on, b > 0, C = 0, g > 90, close, otherwise; document 02, §8: "gas above 90 now goes first"
unfoldable pub acceleration_of : Car → Acceleration
acceleration_of c =
    pick (not (eqb c.key 2)) (speeding 0)
    (pick (ltb 0 c.pedals.brake) (braked c.pedals.brake c.speed)
    (pick (not c.cruise.on) (pulled c.pedals.gas)
    (pick (ltb 90 c.pedals.gas) (pulled c.pedals.gas)
    (pick (close c) (backed_off c.speed)
    (cruising c.pedals.gas c.speed (target_of c))))))

-- Kick-down, foot down while too close: the list of document 02, §8, one field for each condition. On exactly these cars it matters that gas above 90
-- goes before close (`KickDownLaws`).
pub record KickDown (c : Car) : Type 0 where
  pub key : c.key ≡ 2
  pub brake : c.pedals.brake ≡ 0
  pub cruise : c.cruise.on ≡ true
  pub mode : c.settings.mode ≡ 2
  -- "R in 1..254"
  pub range_low : 1 ≤ c.radar.range
  pub range : c.radar.range ≤ 254
  -- "R < N"
  pub near : c.radar.range < secure_distance c
  -- "g > 90"
  pub gas : 90 < c.pedals.gas
