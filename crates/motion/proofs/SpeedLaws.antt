-- Laws of the speed after a second: it is document 01's signed sum, "v + a×36÷10 held to 0..5000", and moves within the band of the change.
-- Assumes nothing.
use Rattle.std.specs.Prelude.{Bool, true, false, cond, ◌≡◌, refl, ℕ, zero, suc, ◌+◌, ◌-◌, ◌≤◌, min, max, ℤ, pos, negsuc, ◌+ℤ◌, ◌*ℤ◌, ltb}
use Rattle.std.proofs.Common.{sym, ap, ◌∙◌, arith, ltb-true}
use Rattle.std.specs.Int.Signed.{quot_z}
use Rattle.kit.specs.Bounds.{speed_ceiling}
use Rattle.kit.specs.Pick.{pick, pick_true, pick_case, pick_le}
use Rattle.motion.specs.declared.Acceleration.{Acceleration}
use Rattle.motion.specs.Acceleration.{signed}
use Rattle.motion.proofs.AccelerationLaws.{Banded}
use Rattle.motion.proofs.SignedLaws.{change_signed, lesser, greater, lesser_pos, greater_pos, greater_neg}
use Rattle.motion.specs.Speed.{change, moved, at_most}

-- "held to 0..5000"
unfoldable pub held_to : ℕ → ℤ → ℤ
held_to most x = lesser (pos most) (greater (pos 0) x)

held_pos : (most n : ℕ) → held_to most (pos n) ≡ pos (min most n)
unfolding held_to
held_pos most n = rw (greater_pos 0 n, lesser_pos most (max 0 n)) (ap pos (omega arith))

-- v less n, which stops at 0
held_less : (most v n : ℕ) → held_to most (pos v +ℤ negsuc n) ≡ pos (min most (v - suc n))
unfolding held_to
held_less most v n = go (ltb v (suc n)) refl
  where
    go : (t : Bool) → ltb v (suc n) ≡ t → held_to most (cond t (negsuc (suc n - suc v)) (pos (v - suc n))) ≡ pos (min most (v - suc n))
    go true e =
        let h = ltb-true v (suc n) e in
        rw (greater_neg 0 (suc n - suc v), lesser_pos most 0) (ap pos (omega arith))
    go false e = held_pos most (v - suc n)

moved_of : (v : ℕ) (slows : Bool) (n : ℕ)
    → pos (moved v (record { slows = slows; size = n })) ≡ held_to speed_ceiling (pos v +ℤ signed (record { slows = slows; size = n }))
unfolding moved signed pick
moved_of v false n = sym (held_pos speed_ceiling (v + n))
moved_of v true zero = rw (held_pos speed_ceiling (v + 0)) (ap pos (omega arith))
moved_of v true (suc n) = sym (held_less speed_ceiling v n)

pub moved_signed : (v : ℕ) (a : Acceleration) → pos (moved v (change a)) ≡ held_to speed_ceiling (pos v +ℤ quot_z (signed a *ℤ pos 36) (pos 10))
moved_signed v a = moved_of v (change a).slows (change a).size ∙ ap (λ (x : ℤ). held_to speed_ceiling (pos v +ℤ x)) (change_signed a)

-- ---- bounds
pub moved_le : (v : ℕ) (a : Acceleration) → moved v a ≤ speed_ceiling
unfolding moved
moved_le v a = omega arith

up_of : (v n down up : ℕ) (slows : Bool) → n ≤ pick slows down up → pick slows (v - n) (v + n) ≤ v + up
unfolding pick
up_of v n down up true h = omega arith
up_of v n down up false h = omega arith

pub moved_up : (v down up : ℕ) (a : Acceleration) → Banded down up a → moved v a ≤ v + up
unfolding moved
moved_up v down up a h = let k = up_of v a.size down up a.slows h in omega arith

down_of : (v n down up : ℕ) (slows : Bool) → n ≤ pick slows down up → v - down ≤ pick slows (v - n) (v + n)
unfolding pick
down_of v n down up true h = omega arith
down_of v n down up false h = omega arith

pub moved_down : (v down up : ℕ) (a : Acceleration) → Banded down up a → v ≤ speed_ceiling → v - down ≤ moved v a
unfolding moved
moved_down v down up a h l = let k = down_of v a.size down up a.slows h in omega arith

pub at_most_le : (on : Bool) (m v k : ℕ) → v ≤ k → at_most on m v ≤ k
unfolding at_most
at_most_le on m v k h = pick_le _ _ _ _ (omega arith) h

pub at_most_cap : (on : Bool) (m v : ℕ) → on ≡ true → at_most on m v ≤ m
unfolding at_most
at_most_cap on m v e = rw (pick_true on (min v m) v e) (omega arith)

pub le_at_most : (on : Bool) (m v k : ℕ) → k ≤ v → (on ≡ true → k ≤ m) → k ≤ at_most on m v
unfolding at_most
le_at_most on m v k h f = pick_case (λ (n : ℕ). k ≤ n) on _ _ (λ t. let i = f t in omega arith) (λ _. h)
