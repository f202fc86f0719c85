-- The speed of a car that cruise alone moves, over plain numbers; `CruiseSpeedLaws` says what it comes to, and `speed_is` that the car's is this one.
-- Assumes nothing.
use Rattle.std.specs.Prelude.{ℕ, zero, suc, ◌+◌, ◌/◌, max, leb}
use Rattle.motion.specs.Acceleration.{towards}
use Rattle.motion.specs.Speed.{change, moved, at_most}

-- v after a tick, by the tick's own rule, and after n of them
unfoldable pub next_speed : ℕ → ℕ → ℕ
next_speed v d = at_most (leb v d) d (moved v (change (towards v d)))

unfoldable pub speed_in : ℕ → ℕ → ℕ → ℕ
speed_in zero v d = v
speed_in (suc n) v d = speed_in n (next_speed v d) d

-- as many ticks as are enough until v = D, for every v, and every D up to a ceiling
unfoldable pub enough_for : ℕ → ℕ
enough_for top = max 50 (top / 36 + 3)
