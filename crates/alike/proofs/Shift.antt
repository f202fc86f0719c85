-- A car whose clock stands n seconds later, with the times that count moved along: all that is no time is the car's own.
-- Assumes nothing.
use Rattle.std.specs.Prelude.{Bool, ℕ, ◌+◌, eqb}
use Rattle.kit.specs.Pick.{pick}
use Rattle.car.specs.declared.Car.{Car}
use Rattle.car.specs.Good.{lever_held}

-- the car with other times; every group is written out, so that `cc` makes it from its fields
unfoldable pub timed : Car → ℕ → ℕ → ℕ → Car
timed c time tested now =
    record {
      settings = record { mode = c.settings.mode; signs = c.settings.signs; towing = c.settings.towing };
      key = c.key;
      levers = record { updown = c.levers.updown; foreback = c.levers.foreback; time = time; base = c.levers.base };
      pedals = record { brake = c.pedals.brake; gas = c.pedals.gas };
      limiter = record { button = c.limiter.button; on = c.limiter.on; limit = c.limiter.limit };
      cruise = record { on = c.cruise.on; desired = c.cruise.desired; manual = c.cruise.manual };
      radar = record { ready = c.radar.ready; range = c.radar.range; lead = c.radar.lead; earlier = c.radar.earlier; tested = tested };
      gap = c.gap;
      speed = c.speed;
      now = now;
    }

-- a time that counts goes along with the clock
unfoldable pub along : Bool → ℕ → ℕ → ℕ
along counts n t = pick counts (t + n) t

unfoldable pub shift : ℕ → Car → Car
shift n c = timed c (along (lever_held c) n c.levers.time) (along (eqb c.key 2) n c.radar.tested) (c.now + n)
