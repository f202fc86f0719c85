-- The next car: document 01, "Rules of each event". One definition for each event; a setter names the part that it changes, and every
-- other part is the car's own.
-- Assumes nothing.
use Rattle.std.specs.Prelude.{Bool, true, false, ◌&&◌, ◌||◌, not, ℕ, ◌+◌, ◌-◌, min, eqb, leb, ltb}
use Rattle.kit.specs.Bounds.{test_period}
use Rattle.kit.specs.Pick.{pick}
use Rattle.desired.specs.Desired.{stepped, long_held, manual_after, sign_desired}
use Rattle.motion.specs.Speed.{change, moved, at_most}
use Rattle.car.specs.declared.Car.{Car}
use Rattle.car.specs.declared.RangeRadar.{RangeRadar}
use Rattle.car.specs.Acceleration.{acceleration_of}
use Rattle.car.specs.Car.{ceiling_of, with_levers, with_pedals, with_limiter, with_cruise, with_radar, with_gap}

-- ---- key: "b, g, v, H, S, C, D, E, T, B, W, Y become 0; key on gives P = ready, R = 0 if ready else 255, Q = now; otherwise P = 0, R = 255, Q = 0"
unfoldable pub key_radar : ℕ → Bool → ℕ → RangeRadar
key_radar position ready now =
    pick (eqb position 2) (record { ready = ready; range = pick ready 0 255; lead = 0; earlier = 0; tested = now })
    (record { ready = false; range = 255; lead = 0; earlier = 0; tested = 0 })

unfoldable pub key_turned : Car → ℕ → Bool → Car
key_turned c position ready =
    record {
      settings = c.settings;
      key = position;
      levers = record { updown = c.levers.updown; foreback = c.levers.foreback; time = 0; base = 0 };
      pedals = record { brake = 0; gas = 0 };
      limiter = record { button = false; on = false; limit = c.limiter.limit };
      cruise = record { on = false; desired = 0; manual = 0 };
      radar = key_radar position ready c.now;
      gap = c.gap;
      speed = 0;
      now = c.now;
    }

-- ---- L, "moved to 1..4: C = 0 gives D = min(2000, v). C = 1 gives up5 ..; up7 ..; down5 ..; down7 .. To neutral: D kept". Here, in forward and in
-- the hold 2000 is the ceiling, which is 1000 towing (document 02, §11)
unfoldable pub lever_desired : Car → ℕ → ℕ
lever_desired c x =
    pick (eqb x 0) c.cruise.desired
    (pick c.cruise.on (stepped (ceiling_of c.settings) x c.cruise.desired)
    (min (ceiling_of c.settings) c.speed))

-- "then T = now, B = D", and "T and B are 0 unless C = 1 and L is out"
unfoldable pub while_held : Bool → ℕ → ℕ → ℕ
while_held on x n = pick (on && not (eqb x 0)) n 0

unfoldable pub up_down_moved : Car → ℕ → Car
up_down_moved c x =
    with_cruise
    (with_levers c
    (record {
      updown = x;
      foreback = c.levers.foreback;
      time = while_held c.cruise.on x c.now;
      base = while_held c.cruise.on x (lever_desired c x);
    }))
    (record { on = c.cruise.on; desired = lever_desired c x; manual = manual_after (lever_desired c x) c.cruise.manual })

-- ---- M
unfoldable pub with_foreback : Car → ℕ → Car
with_foreback c y =
    with_levers c (record { updown = c.levers.updown; foreback = y; time = c.levers.time; base = c.levers.base })

-- "forward: with key on, b = 0 and (C = 1 or v ≥ 200 or D > 0), C = 1, and D = 0 becomes min(2000, v)"
unfoldable pub engages : Car → Bool
engages c =
    eqb c.key 2 && eqb c.pedals.brake 0 && (c.cruise.on || leb 200 c.speed || ltb 0 c.cruise.desired)

unfoldable pub start_desired : Car → ℕ
start_desired c = pick (eqb c.cruise.desired 0) (min (ceiling_of c.settings) c.speed) c.cruise.desired

unfoldable pub engaged : Car → ℕ → Car
engaged c d = with_cruise c (record { on = true; desired = d; manual = c.cruise.manual })

unfoldable pub forward : Car → Car
forward c = pick (engages c) (engaged c (start_desired c)) c

-- cruise off, so T and B are 0
unfoldable pub cruise_off : Car → Car
cruise_off c =
    with_cruise
    (with_levers c (record { updown = c.levers.updown; foreback = c.levers.foreback; time = 0; base = 0 }))
    (record { on = false; desired = c.cruise.desired; manual = c.cruise.manual })

-- "Backward: C, H, S = 0"
unfoldable pub backward : Car → Car
backward c = with_limiter (cruise_off c) (record { button = false; on = false; limit = c.limiter.limit })

-- M takes its word's value, and forward and backward do what they do
unfoldable pub fore_back_moved : Car → ℕ → Car
fore_back_moved c y =
    pick (eqb y 1) (forward (with_foreback c y)) (pick (eqb y 2) (backward (with_foreback c y)) (with_foreback c y))

-- ---- "Brake: above 0, C = 0"
unfoldable pub brake_pressed : Car → ℕ → Car
brake_pressed c x =
    pick (ltb 0 x)
    (with_pedals (cruise_off c) (record { brake = x; gas = c.pedals.gas }))
    (with_pedals c (record { brake = x; gas = c.pedals.gas }))

-- ---- "Gas: above 90, S = 0"
unfoldable pub gas_pressed : Car → ℕ → Car
gas_pressed c x =
    with_pedals
    (with_limiter c (record { button = c.limiter.button; on = pick (ltb 90 x) false c.limiter.on; limit = c.limiter.limit }))
    (record { brake = c.pedals.brake; gas = x })

-- ---- "Button: H = S = 1, Z = limit"
unfoldable pub button_pressed : Car → ℕ → Car
button_pressed c limit = with_limiter c (record { button = true; on = true; limit = limit })

-- ---- "Gap: G"
abbrev pub gap_chosen : Car → ℕ → Car
gap_chosen c tenths = with_gap c tenths

-- ---- "Sign s acts only with signs 1, mode 2, C = 1, g = 0, L = M = 0"
unfoldable pub sign_acts : Car → Bool
sign_acts c =
    c.settings.signs && eqb c.settings.mode 2 && c.cruise.on && eqb c.pedals.gas 0
    && eqb c.levers.updown 0 && eqb c.levers.foreback 0

-- D by a sign that acts; else D stays
unfoldable pub sign_after : Car → ℕ → ℕ
sign_after c s = pick (sign_acts c) (sign_desired (ceiling_of c.settings) s c.cruise.desired c.cruise.manual) c.cruise.desired

unfoldable pub sign_passed : Car → ℕ → Car
sign_passed c s = with_cruise c (record { on = c.cruise.on; desired = sign_after c s; manual = c.cruise.manual })

-- ---- "Radar: Y = W, then R and W"
unfoldable pub reading_taken : Car → ℕ → ℕ → Car
reading_taken c range speed =
    with_radar c (record { ready = c.radar.ready; range = range; lead = speed; earlier = c.radar.lead; tested = c.radar.tested })

-- ---- tick: "now rises by 1. At a test (now = Q + 600, key on) Q = now, P = ready; R = 255 if not ready, 0 if it was 255"
unfoldable pub test_due : Car → Bool
test_due c = eqb c.key 2 && eqb (c.now + 1) (c.radar.tested + test_period)

unfoldable pub range_after : Bool → ℕ → ℕ
range_after ready range = pick (not ready) 255 (pick (eqb range 255) 0 range)

unfoldable pub radar_tested : RangeRadar → Bool → ℕ → RangeRadar
radar_tested r ready now =
    record { ready = ready; range = range_after ready r.range; lead = r.lead; earlier = r.earlier; tested = now }

unfoldable pub radar_after : Car → Bool → RangeRadar
radar_after c ready = pick (test_due c) (radar_tested c.radar ready (c.now + 1)) c.radar

-- D: "with L out and h = now − T ≥ 2", now the new one
abbrev pub hold_applies : Car → ℕ → Bool
hold_applies c h = not (eqb c.levers.updown 0) && leb 2 h

-- "up5 ..": the hold's formula; else D stays
unfoldable pub hold_desired : Car → ℕ → ℕ
hold_desired c h =
    pick (hold_applies c h)
    (long_held (ceiling_of c.settings) c.levers.updown c.levers.base h)
    c.cruise.desired

-- "A tick with cruise off keeps D"
unfoldable pub tick_desired : Car → ℕ
tick_desired c = pick c.cruise.on (hold_desired c (c.now + 1 - c.levers.time)) c.cruise.desired

-- "C = 1, g = 0 and the old v was at most it"; it is the new D
unfoldable pub holds_desired : Car → ℕ → Bool
holds_desired c d = c.cruise.on && eqb c.pedals.gas 0 && leb c.speed d

unfoldable pub tick_speed : Car → ℕ → ℕ
tick_speed c d =
    at_most (holds_desired c d) d
    (at_most c.limiter.on c.limiter.limit (moved c.speed (change (acceleration_of c))))

unfoldable pub ticked : Car → Bool → Car
ticked c ready =
    record {
      settings = c.settings;
      key = c.key;
      levers = c.levers;
      pedals = c.pedals;
      limiter = c.limiter;
      cruise = record { on = c.cruise.on; desired = tick_desired c; manual = c.cruise.manual };
      radar = radar_after c ready;
      gap = c.gap;
      speed = tick_speed c (tick_desired c);
      now = c.now + 1;
    }
