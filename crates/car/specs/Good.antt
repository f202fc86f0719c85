-- The good-car test: document 01, "Standing rules" and "The record" ("Accepted exactly when ..."). A good car is one that an
-- accepted record gives. `Standing` says the same as named rules, and `GoodLaws` proves the two equivalent.
-- Assumes nothing.
use Rattle.std.specs.Prelude.{Bool, ◌&&◌, ◌||◌, not, ℕ, ◌+◌, ◌-◌, eqb, leb, ltb}
use Rattle.std.specs.Bool.{beq}
use Rattle.kit.specs.Bounds.{pedal_ceiling, speed_ceiling, lesson_length, test_period}
use Rattle.event.specs.Words.{permitted_gap}
use Rattle.desired.specs.Desired.{held}
use Rattle.car.specs.declared.Car.{Car}
use Rattle.car.specs.Car.{ceiling_of}

-- the ranges of what the hands and feet hold, and of the numbers; `top` is the ceiling of D and B. "E .. 0 or 1200..2000": to the ceiling as well, so
-- that towing, where it is 1000, E is 0
unfoldable pub positions_of : Car → Bool
positions_of c =
    leb 1 c.settings.mode && leb c.settings.mode 2
    && leb c.key 2
    && leb c.levers.updown 4
    && leb c.levers.foreback 2
    && leb c.pedals.brake pedal_ceiling
    && leb c.pedals.gas pedal_ceiling

unfoldable pub numbers_of : ℕ → Car → Bool
numbers_of top c =
    leb c.speed speed_ceiling
    && leb c.limiter.limit speed_ceiling
    && leb c.cruise.desired top
    && (eqb c.cruise.manual 0 || leb 1200 c.cruise.manual) && leb c.cruise.manual top
    && leb c.levers.base top
    && leb c.radar.range 255
    && leb c.radar.lead speed_ceiling
    && leb c.radar.earlier speed_ceiling
    && leb c.now lesson_length
    && leb c.radar.tested lesson_length

unfoldable pub ranges_of : ℕ → Car → Bool
ranges_of top c = positions_of c && numbers_of top c && permitted_gap c.gap

-- "C = 1 and L is out"
abbrev pub lever_held : Car → Bool
lever_held c = c.cruise.on && not (eqb c.levers.updown 0)

-- "T and B are 0 unless C = 1 and L is out", and T ≤ now
abbrev pub idle_of : Car → Bool
idle_of c = eqb c.levers.time 0 && eqb c.levers.base 0

unfoldable pub times_of : Car → Bool
times_of c = (lever_held c || idle_of c) && leb c.levers.time c.now

-- (a) "b or g is 0. Key not on: b, g, v, D, E, H, S, C, T, B, P, W, Y, Q are 0, R = 255"
abbrev pub off_of : Car → Bool
off_of c =
    eqb c.pedals.brake 0 && eqb c.pedals.gas 0 && eqb c.speed 0 && eqb c.cruise.desired 0 && eqb c.cruise.manual 0
    && not c.limiter.button && not c.limiter.on && not c.cruise.on && eqb c.levers.time 0 && eqb c.levers.base 0
    && not c.radar.ready && eqb c.radar.lead 0 && eqb c.radar.earlier 0 && eqb c.radar.tested 0 && eqb c.radar.range 255

unfoldable pub rule_a : Car → Bool
rule_a c = (eqb c.pedals.brake 0 || eqb c.pedals.gas 0) && (eqb c.key 2 || off_of c)

-- (b) "L or M is neutral"
unfoldable pub rule_b : Car → Bool
rule_b c = eqb c.levers.updown 0 || eqb c.levers.foreback 0

-- (c) "C = 1: b = 0, M not backward, 1 ≤ D ≤ 2000"; D's ceiling is a range
abbrev pub cruising_of : Car → Bool
cruising_of c = eqb c.pedals.brake 0 && not (eqb c.levers.foreback 2) && leb 1 c.cruise.desired

unfoldable pub rule_c : Car → Bool
rule_c c = not c.cruise.on || cruising_of c

-- (d) "S = 1: H = 1, g ≤ 90, v ≤ Z. H = 1: key on, M not backward"
abbrev pub limiting_of : Car → Bool
limiting_of c = c.limiter.button && leb c.pedals.gas 90 && leb c.speed c.limiter.limit

abbrev pub button_of : Car → Bool
button_of c = eqb c.key 2 && not (eqb c.levers.foreback 2)

unfoldable pub rule_d : Car → Bool
rule_d c = (not c.limiter.on || limiting_of c) && (not c.limiter.button || button_of c)

-- (e) "R = 255 exactly when P = 0. Key on: Q ≤ now < Q + 600"
abbrev pub tested_of : Car → Bool
tested_of c = leb c.radar.tested c.now && ltb c.now (c.radar.tested + test_period)

unfoldable pub rule_e : Car → Bool
rule_e c = beq (eqb c.radar.range 255) (not c.radar.ready) && (not (eqb c.key 2) || tested_of c)

-- (f) as far as one car shows it: "D's formula with h = now − T"
unfoldable pub rule_f : ℕ → Car → Bool
rule_f top c = not (lever_held c) || eqb c.cruise.desired (held top c.levers.updown c.levers.base (c.now - c.levers.time))

unfoldable pub obeys_of : ℕ → Car → Bool
obeys_of top c = times_of c && rule_a c && rule_b c && rule_c c && rule_d c && rule_e c && rule_f top c

-- the whole test, over the ceiling
unfoldable pub good_at : ℕ → Car → Bool
good_at top c = ranges_of top c && obeys_of top c

unfoldable pub good_of : Car → Bool
good_of c = good_at (ceiling_of c.settings) c
