-- How the code works with the acceleration: by its code a + 60, one number with no sign. `AccelerationShapeLaws` says that it is a.
-- Assumes nothing.
use Rattle.std.specs.Prelude.{ℕ, ◌+◌, ◌-◌, ◌*◌, ◌/◌, min, max, eqb, ltb}
use Rattle.kit.specs.Bounds.{speed_ceiling}
use Rattle.kit.specs.Pick.{pick}
use Rattle.motion.specs.declared.Acceleration.{Acceleration}
use Rattle.motion.specs.Acceleration.{pulled, acceleration_code}

-- the acceleration of a code
unfoldable pub decoded : ℕ → Acceleration
decoded code = record { slows = ltb code 60; size = (60 - code) + (code - 60) }

-- "max(1, (X − v)×10÷36)", of a difference either way
unfoldable pub strived : ℕ → ℕ
strived difference = max 1 (difference * 10 / 36)

-- "a = s if g = 0, else min(30, max(g×30÷225, s))", by the code of an s that is itself at most 30: the larger of two codes is that of the larger a
unfoldable pub urged_code : ℕ → ℕ → ℕ
urged_code g s = pick (eqb g 0) s (max (acceleration_code (pulled g)) s)

-- "v + a×36÷10 held to 0..5000", by the code of a
unfoldable pub moved_by : ℕ → ℕ → ℕ
moved_by v code = min speed_ceiling (pick (ltb code 60) (v - (60 - code) * 36 / 10) (v + (code - 60) * 36 / 10))
