-- What moves of the up-down lever leave of a car: all but where the lever stands, D and E, and T and B.
-- Assumes nothing.
use Rattle.std.specs.Prelude.{◌≡◌}
use Rattle.car.specs.declared.Car.{Car}

pub record Untouched (c d : Car) : Type 0 where
  pub settings : d.settings ≡ c.settings
  pub key : d.key ≡ c.key
  pub foreback : d.levers.foreback ≡ c.levers.foreback
  pub pedals : d.pedals ≡ c.pedals
  pub limiter : d.limiter ≡ c.limiter
  pub cruise : d.cruise.on ≡ c.cruise.on
  pub radar : d.radar ≡ c.radar
  pub gap : d.gap ≡ c.gap
  pub speed : d.speed ≡ c.speed
  pub now : d.now ≡ c.now
