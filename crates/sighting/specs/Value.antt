-- A float's exact value beside whole numbers. `fin s m e` is the number m * 2 ^ e that the float's bits stand for, with a minus sign where s is true;
-- 2 ^ e is the fraction up e / down e, so that "n is at or below k times the float" is n * down e ≤ k * (m * up e).
-- Assumes nothing.
use Rattle.std.specs.Prelude.{Bool, true, false, not, ◌&&◌, ℕ, ◌*◌, ◌/◌, ltb, Float}
use Rattle.std.specs.Float.{nan, inf, fin}
use Rattle.std.specs.Float.Ieee.{up, down}

-- "a float that is no number, infinite or below zero". "Minus zero is zero"
unfoldable pub unusable : Float → Bool
unusable nan = true
unusable (inf s) = true
unusable (fin s m e) = s && ltb 0 m

-- above a whole number
unfoldable pub above : ℕ → Float → Bool
above n nan = false
above n (inf s) = not s
above n (fin s m e) = not s && ltb (n * down e) (m * up e)

-- the whole number at or below k times the float; of no meaning where the float is unusable
unfoldable pub floor_times : ℕ → Float → ℕ
floor_times k nan = 0
floor_times k (inf s) = 0
floor_times k (fin s m e) = k * (m * up e) / down e
