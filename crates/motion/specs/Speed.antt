-- The speed after a second, over plain numbers: document 01, "Rules of each event", the tick's v.
-- Assumes nothing.
use Rattle.std.specs.Prelude.{Bool, ℕ, ◌+◌, ◌-◌, ◌*◌, ◌/◌, min}
use Rattle.kit.specs.Bounds.{speed_ceiling}
use Rattle.kit.specs.Pick.{pick}
use Rattle.motion.specs.declared.Acceleration.{Acceleration}

-- "a×36÷10", a second's change of v
unfoldable pub change : Acceleration → Acceleration
change a = record { slows = a.slows; size = a.size * 36 / 10 }

-- "v: v + a×36÷10 held to 0..5000"
unfoldable pub moved : ℕ → Acceleration → ℕ
moved v a = min speed_ceiling (pick a.slows (v - a.size) (v + a.size))

-- "at most Z if S", "at most the new D if .."
unfoldable pub at_most : Bool → ℕ → ℕ → ℕ
at_most on most v = pick on (min v most) v
