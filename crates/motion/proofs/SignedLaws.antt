-- Laws of the acceleration as a signed number: its band, that ÷ on the size is the document's ÷ on the signed
-- number, and its code.
-- Assumes nothing.
use Rattle.std.specs.Prelude.{Bool, true, false, ◌≡◌, refl, ℕ, zero, suc, ◌+◌, ◌*◌, ◌/◌, ◌≤◌, min, max, ℤ, pos, negsuc, neg_ℤ, ◌+ℤ◌, ◌*ℤ◌, leb, ◌≤ℤ◌}
use Rattle.std.proofs.Common.{sym, ap, le→leb, zero-mul, arith, leb-true, leb-false, le-ltb}
use Rattle.std.proofs.Math.IntN.{negsuc-*ℤ-pos}
use Rattle.std.specs.Int.Signed.{quot_z, le_z}
use Rattle.std.proofs.Math.Nat.{zero-div}
use Rattle.kit.specs.Bounds.{full_brake, full_gas}
use Rattle.kit.specs.Pick.{pick, pick_case}
use Rattle.motion.specs.declared.Acceleration.{Acceleration}
use Rattle.motion.specs.Acceleration.{signed, speeding, pushed, acceleration_code}
use Rattle.motion.proofs.AccelerationLaws.{Banded}
use Rattle.motion.specs.Speed.{change}

neg_le : (n k : ℕ) → k ≤ n → neg_ℤ (pos n) ≤ℤ neg_ℤ (pos k)
neg_le zero zero h = record { le = tt }
neg_le zero (suc k) h = absurd (omega arith)
neg_le (suc n) zero h = record { le = tt }
neg_le (suc n) (suc k) h = record { le = le→leb k n (omega arith) }

neg_le_pos : (n k : ℕ) → neg_ℤ (pos n) ≤ℤ pos k
neg_le_pos zero k = record { le = le→leb 0 k (omega arith) }
neg_le_pos (suc n) k = record { le = tt }

-- a size within the band of its sign is a signed number in -down..up
band_of : (slows : Bool) (n down up : ℕ) → n ≤ pick slows down up
    → (neg_ℤ (pos down) ≤ℤ signed (record { slows = slows; size = n })) × (signed (record { slows = slows; size = n }) ≤ℤ pos up)
unfolding signed pick
band_of true n down up h = (neg_le down n h, neg_le_pos n up)
band_of false n down up h = (neg_le_pos down n, record { le = le→leb n up h })

pub band : (down up : ℕ) (a : Acceleration) → Banded down up a → (neg_ℤ (pos down) ≤ℤ signed a) × (signed a ≤ℤ pos up)
band down up a h = band_of a.slows a.size down up h

-- a×36÷10 of the signed number, ÷ towards zero
quot_neg : (k d : ℕ) → quot_z (neg_ℤ (pos k)) (pos d) ≡ neg_ℤ (pos (k / d))
quot_neg zero d = rw (zero-div d)
quot_neg (suc k) d = refl

neg_mul : (n k : ℕ) → neg_ℤ (pos n) *ℤ pos k ≡ neg_ℤ (pos (n * k))
neg_mul zero k = rw (zero-mul k)
neg_mul (suc n) k = negsuc-*ℤ-pos n k

change_of : (slows : Bool) (n : ℕ) → signed (change (record { slows = slows; size = n })) ≡ quot_z (signed (record { slows = slows; size = n }) *ℤ pos 36) (pos 10)
unfolding signed change pick
change_of true n = rw (neg_mul n 36, quot_neg (n * 36) 10)
change_of false n = refl

pub change_signed : (a : Acceleration) → signed (change a) ≡ quot_z (signed a *ℤ pos 36) (pos 10)
unfolding signed change pick
change_signed a = change_of a.slows a.size

-- ---- "min(30, max(g×30÷225, s))" of the signed number s
unfoldable pub lesser : ℤ → ℤ → ℤ
lesser x y = pick (le_z x y) x y

unfoldable pub greater : ℤ → ℤ → ℤ
greater x y = pick (le_z x y) y x

pub lesser_pos : (a b : ℕ) → lesser (pos a) (pos b) ≡ pos (min a b)
unfolding lesser
lesser_pos a b =
    pick_case (λ (z : ℤ). z ≡ pos (min a b)) (leb a b) _ _
    (λ t. let h = leb-true a b t in ap pos (omega arith))
    (λ t. let h = leb-false a b t in ap pos (omega arith))

pub greater_pos : (a b : ℕ) → greater (pos a) (pos b) ≡ pos (max a b)
unfolding greater
greater_pos a b =
    pick_case (λ (z : ℤ). z ≡ pos (max a b)) (leb a b) _ _
    (λ t. let h = leb-true a b t in ap pos (omega arith))
    (λ t. let h = leb-false a b t in ap pos (omega arith))

pub greater_neg : (a n : ℕ) → greater (pos a) (negsuc n) ≡ pos a
unfolding greater pick
greater_neg a n = refl

pushed_of : (term : ℕ) (slows : Bool) (n : ℕ)
    → signed (pushed term (record { slows = slows; size = n })) ≡ lesser (pos 30) (greater (pos term) (signed (record { slows = slows; size = n })))
unfolding signed pushed speeding pick
pushed_of term false n = rw (greater_pos term n, lesser_pos 30 (max term n))
pushed_of term true zero = rw (greater_pos term 0, lesser_pos 30 (max term 0)) (ap pos (omega arith))
pushed_of term true (suc n) = rw (greater_neg term n) (sym (lesser_pos 30 term))

pub pushed_signed : (term : ℕ) (s : Acceleration) → signed (pushed term s) ≡ lesser (pos 30) (greater (pos term) (signed s))
unfolding signed pushed speeding pick
pushed_signed term s = pushed_of term s.slows s.size

-- ---- a + 60 of an a in its band lies in 0..90, which fits seven bits, and is the signed number and 60: at full brake it is 0, nothing is cut
code_of_le : (slows : Bool) (n : ℕ) → n ≤ pick slows full_brake full_gas → acceleration_code (record { slows = slows; size = n }) ≤ 60 + full_gas
unfolding acceleration_code pick
code_of_le true n h = omega arith
code_of_le false n h = omega arith

pub code_le : (a : Acceleration) → Banded full_brake full_gas a → acceleration_code a ≤ 60 + full_gas
code_le a h = code_of_le a.slows a.size h

code_of : (slows : Bool) (n : ℕ) → n ≤ 60
    → pos (acceleration_code (record { slows = slows; size = n })) ≡ signed (record { slows = slows; size = n }) +ℤ pos 60
unfolding acceleration_code signed pick
code_of true zero h = refl
code_of true (suc n) h = rw (le-ltb 60 (suc n) h)
code_of false n h = ap pos (omega arith)

pub code_signed : (a : Acceleration) → a.size ≤ 60 → pos (acceleration_code a) ≡ signed a +ℤ pos 60
code_signed a h = code_of a.slows a.size h
