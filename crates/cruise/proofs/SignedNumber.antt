-- A signed acceleration in 32 bits.
-- Assumes nothing.
use mathlib.Core.Bool.{true, false}
use mathlib.Core.Path.{◌≡◌, sym, ap, subst, ◌∙◌}
use Prim.Native.Nat.{ℕ, zero, suc, ◌≤◌}
use native.Mathlib.Omega.{arith}
use lib.IntN.{ℤ, pos, neg_ℤ, ◌-ℤ◌, +ℤ_idl}
use mir.Syntax.{w32}
use mir.Val.{SFits, to_z, of_z}
use mir.ValLaws.{to_z_pos, to_z-of_z}
use Rattle.kit.specs.Pick.{pick, pick_true, pick_false}
use Rattle.motion.specs.declared.Acceleration.{Acceleration}
use Rattle.motion.specs.Acceleration.{signed}

minus_fits : (n : ℕ) → n ≤ 60 → SFits w32 (neg_ℤ (pos n))
minus_fits zero h = record { sfits = omega arith }
minus_fits (suc n) h = record { sfits = omega arith }

-- 0 - n, n read as signed
zero_minus : (n : ℕ) → n ≤ 60 → pos 0 -ℤ to_z w32 n ≡ neg_ℤ (pos n)
zero_minus n h = ap (λ (z : ℤ). pos 0 -ℤ z) (to_z_pos w32 n (omega arith)) ∙ +ℤ_idl (neg_ℤ (pos n))

pub minus_held : (n : ℕ) → n ≤ 60 → SFits w32 (pos 0 -ℤ to_z w32 n)
minus_held n h = subst (SFits w32) (sym (zero_minus n h)) (minus_fits n h)

pub slows_signed : (a : Acceleration) → a.size ≤ 60 → a.slows ≡ true → to_z w32 (of_z w32 (pos 0 -ℤ to_z w32 a.size)) ≡ signed a
unfolding signed
slows_signed a h e = to_z-of_z w32 _ (minus_held a.size h) ∙ zero_minus a.size h ∙ sym (pick_true _ _ _ e)

pub speeds_signed : (a : Acceleration) → a.size ≤ 60 → a.slows ≡ false → to_z w32 a.size ≡ signed a
unfolding signed
speeds_signed a h e = to_z_pos w32 a.size (omega arith) ∙ sym (pick_false _ _ _ e)

-- what is stored is read as the same number
pub signed_held : (a : Acceleration) → a.size ≤ 60 → to_z w32 (of_z w32 (signed a)) ≡ signed a
unfolding signed pick
signed_held a h = to_z-of_z w32 _ (fits a.slows)
  where
    fits : (slows : _) → SFits w32 (pick slows (neg_ℤ (pos a.size)) (pos a.size))
    fits true = minus_fits a.size h
    fits false = record { sfits = omega arith }
