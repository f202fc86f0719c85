-- Laws of the desired speed by the up-down lever: what down7 gives; and, over the ceiling, D stays within 1 and the ceiling.
-- Assumes nothing.
use Rattle.std.specs.Prelude.{◌≡◌, ℕ, ◌-◌, ◌*◌, ◌/◌, ◌≤◌, ◌<◌}
use Rattle.std.proofs.Common.{arith, lt-ltb}
use Rattle.kit.specs.Pick.{picks, pick_true, pick_le, le_pick}
use Rattle.desired.specs.Desired.{up5, up7, down5, hundred_below, down7, stepped, long_held, held}

-- "the greatest multiple of 100 strictly below D"
pub record GreatestBelow (d n : ℕ) : Type 0 where
  pub hundreds : ℕ
  pub multiple : n ≡ hundreds * 100
  pub below : n < d
  pub greatest : (k : ℕ) → k * 100 < d → k * 100 ≤ n

pub hundred_below_greatest : (d : ℕ) → 1 ≤ d → GreatestBelow d (hundred_below d)
unfolding hundred_below
hundred_below_greatest d p = record { hundreds = hundred_below d / 100; multiple = omega arith; below = omega arith; greatest = λ k h. omega arith }

module _ (top : ℕ) (low : 10 ≤ top) where
  pub stepped_le : (x d : ℕ) → d ≤ top → stepped top x d ≤ top
  unfolding stepped up5 up7 down5 down7 hundred_below
  stepped_le x d h = pick_le _ _ _ _ (omega arith) (pick_le _ _ _ _ (omega arith) (pick_le _ _ _ _ (omega arith) (omega arith)))

  pub stepped_pos : (x d : ℕ) → 1 ≤ stepped top x d
  unfolding stepped up5 up7 down5 down7 hundred_below
  stepped_pos x d = le_pick _ _ _ _ (omega arith) (le_pick _ _ _ _ (omega arith) (le_pick _ _ _ _ (omega arith) (omega arith)))

  pub long_held_le : (x b h : ℕ) → b ≤ top → long_held top x b h ≤ top
  unfolding long_held
  long_held_le x b h p = pick_le _ _ _ _ (omega arith) (pick_le _ _ _ _ (omega arith) (pick_le _ _ _ _ (omega arith) (omega arith)))

  pub long_held_pos : (x b h : ℕ) → 2 ≤ h → 1 ≤ long_held top x b h
  unfolding long_held
  long_held_pos x b h p = le_pick _ _ _ _ (omega arith) (le_pick _ _ _ _ (omega arith) (le_pick _ _ _ _ (omega arith) (omega arith)))

pub held_early : (top x b h : ℕ) → h < 2 → held top x b h ≡ b
unfolding held
held_early top x b h q = search picks

pub held_late : (top x b h : ℕ) → 2 ≤ h → held top x b h ≡ long_held top x b h
unfolding held
held_late top x b h q = search picks

-- at the lever's own word h is 0
pub held_start : (top x b n : ℕ) → held top x b (n - n) ≡ b
unfolding held
held_start top x b n = pick_true _ _ _ (lt-ltb (n - n) 2 (omega arith))
