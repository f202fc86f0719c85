-- The checks 4 to 16 of a car: document 01, "From file, pupil, radar, clock and caller". The first number that holds, 0 for none.
-- Assumes nothing.
use Rattle.std.specs.Prelude.{◌&&◌, ℕ, leb, ltb}
use Rattle.kit.specs.Pick.{pick}
use Rattle.event.specs.declared.Input.{Input}
use Rattle.event.specs.declared.Input.TheVariants.{Key, UpDown, ForeBack, Brake, Gas, Button, Gap, Sign, Radar}
use Rattle.event.specs.declared.Event.{Event}
use Rattle.event.specs.declared.Event.TheVariants as event
use Rattle.event.specs.Words.{input_kind}
use Rattle.checks.specs.Checks.{key_on, key_check, up_down_check, fore_back_check, pedal_check, button_check, radar_check, tick_check}
use Rattle.car.specs.declared.Car.{Car}
use Rattle.car.specs.Rules.{test_due}

-- what the checks of an input's own kind give
unfoldable pub own_check : Car → Input → ℕ
own_check c (Key position ready) = key_check c.key c.speed position ready
own_check c (UpDown x) = up_down_check c.levers.updown c.levers.foreback x
own_check c (ForeBack y) = fore_back_check c.levers.foreback c.levers.updown y
own_check c (Brake x) = pedal_check c.pedals.brake c.pedals.gas x
own_check c (Gas x) = pedal_check c.pedals.gas c.pedals.brake x
own_check c (Button limit) = button_check c.limiter.button c.levers.foreback c.pedals.gas c.speed limit
own_check c (Gap tenths) = 0
own_check c (Sign s) = 0
own_check c (Radar range speed) = radar_check c.radar.ready

-- 4 "key not on (kinds 4 to 9)" comes first
unfoldable pub input_check : Car → Input → ℕ
input_check c i = pick (leb 4 (input_kind i) && ltb (input_kind i) 10) (key_on c.key (own_check c i)) (own_check c i)

unfoldable pub event_check : Car → Event → ℕ
event_check c (event.Input i) = input_check c i
event_check c (event.Tick ready) = tick_check c.radar.ready (test_due c) c.now ready
