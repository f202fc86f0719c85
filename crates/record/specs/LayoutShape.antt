-- What the functions that write a record's words ask of a car: each number fits its width.
-- Assumes nothing.
use Rattle.std.specs.Prelude.{◌^◌, ◌<◌}
use Rattle.car.specs.declared.Car.{Car}

-- each number of a car fits its width
pub record Fits (c : Car) : Type 0 where
  pub mode : c.settings.mode < 2 ^ 2
  pub key : c.key < 2 ^ 2
  pub updown : c.levers.updown < 2 ^ 3
  pub foreback : c.levers.foreback < 2 ^ 2
  pub brake : c.pedals.brake < 2 ^ 8
  pub gas : c.pedals.gas < 2 ^ 8
  pub speed : c.speed < 2 ^ 13
  pub limit : c.limiter.limit < 2 ^ 13
  pub desired : c.cruise.desired < 2 ^ 11
  pub manual : c.cruise.manual < 2 ^ 11
  pub time : c.levers.time < 2 ^ 17
  pub base : c.levers.base < 2 ^ 11
  pub range : c.radar.range < 2 ^ 8
  pub lead : c.radar.lead < 2 ^ 13
  pub earlier : c.radar.earlier < 2 ^ 13
  pub gap : c.gap < 2 ^ 5
  pub now : c.now < 2 ^ 17
  pub tested : c.radar.tested < 2 ^ 17
