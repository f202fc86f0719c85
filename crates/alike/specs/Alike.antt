-- Alike: document 02, §9. "Cars count as alike from now on exactly when" all that is no time agrees, and two times count as far as they matter.
-- A question about any two cars: it has no refusal.
-- Assumes nothing.
use Rattle.std.specs.Prelude.{Bool, ◌&&◌, ◌||◌, not, ℕ, ◌+◌, eqb}
use Rattle.std.specs.Bool.{beq}
use Rattle.car.specs.declared.Car.{Car}
use Rattle.car.specs.Good.{lever_held}

-- "key, L, M, v, D, C and S agree" (document 01), and now "B, E, G, Z, H, b, g, R, W, Y, P, the settings .. too": all of the car but now, T and Q, in
-- document 01's order
unfoldable pub positions_alike : Car → Car → Bool
positions_alike a b =
    eqb a.settings.mode b.settings.mode
    && beq a.settings.signs b.settings.signs
    && beq a.settings.towing b.settings.towing
    && eqb a.key b.key
    && eqb a.levers.updown b.levers.updown
    && eqb a.levers.foreback b.levers.foreback
    && eqb a.pedals.brake b.pedals.brake
    && eqb a.pedals.gas b.pedals.gas
    && beq a.limiter.button b.limiter.button
    && beq a.limiter.on b.limiter.on
    && beq a.cruise.on b.cruise.on
    && beq a.radar.ready b.radar.ready

unfoldable pub numbers_alike : Car → Car → Bool
numbers_alike a b =
    eqb a.speed b.speed
    && eqb a.limiter.limit b.limiter.limit
    && eqb a.cruise.desired b.cruise.desired
    && eqb a.cruise.manual b.cruise.manual
    && eqb a.levers.base b.levers.base
    && eqb a.radar.range b.radar.range
    && eqb a.radar.lead b.radar.lead
    && eqb a.radar.earlier b.radar.earlier
    && eqb a.gap b.gap

-- "compared as seconds before each car's now": now − t and now' − t', reckoned with a sign, are one number. As sums, since a time may lie after
-- its car's now
unfoldable pub same_ago : ℕ → ℕ → ℕ → ℕ → Bool
same_ago now t now' t' = eqb (now + t') (now' + t)

-- "T only when the lever is out and cruise on, Q only with the key on"; which of these holds is the same of both cars, by their fields
unfoldable pub times_alike : Car → Car → Bool
times_alike a b =
    (not (lever_held a) || same_ago a.now a.levers.time b.now b.levers.time)
    && (not (eqb a.key 2) || same_ago a.now a.radar.tested b.now b.radar.tested)

unfoldable pub alike_of : Car → Car → Bool
alike_of a b = positions_alike a b && numbers_alike a b && times_alike a b
