-- The whole number at or below a multiple of a float, as the code's shifts give it from the bits.
-- Assumes nothing.
use Rattle.std.specs.Prelude.{false, true, ◌≡◌, refl, ℕ, zero, suc, ◌+◌, ◌-◌, ◌*◌, ◌/◌, ◌%◌, ◌^◌, ◌≤◌, ◌<◌, min, Float}
use Rattle.std.proofs.Common.{sym, ap, ◌∙◌, subst, mul_assoc, le-div_iff_mul-le, mul-le-mul, lt_of_lt_of_le, one-mul, le-add_right, pos_of_ne-zero, arith, pow-add, pow_pos, pow_mono}
use Rattle.std.proofs.Math.Nat.{mul-div-mul_right, div-eq_of_lt}
use Rattle.std.specs.Float.{binary32}
use Rattle.std.specs.Float.Ieee.{of_bits, of_fields}
use Rattle.std.specs.Float.Ieee.Exact.{HasValue}
use Rattle.kit.specs.Answer.{gives, refused}
use Rattle.kit.specs.Pick.{pick, pick_true, pick_false}
use Rattle.sighting.specs.Value.{unusable, floor_times}
use Rattle.sighting.proofs.ValueLaws.{value_small, value_normal, fields, floor_of_value}
use Rattle.sighting.specs.SightingShape.{whole_of, large}

-- ---- a power of 0: the digits alone
floor_small : (k b : ℕ) → b < 0x7f80_0000 → b / 8388608 ≡ 0 → floor_times k (of_bits binary32 b) ≡ k * (b % 8388608) / 2 ^ 149
floor_small k b h z =
    floor_of_value k (of_bits binary32 b) false (b % 8388608) (2 ^ 149) (pow_pos 149)
    (subst (λ (x : Float). HasValue x false (b % 8388608) (2 ^ 149)) (sym (fields b h ∙ ap (λ (n : ℕ). of_fields binary32 false n (b % 8388608)) z)) (value_small false (b % 8388608)))

-- `omega` takes no number of more than 38 digits, so the power stays a power here
tiny : (p : ℕ) → p < 2 ^ 28 → p / 2 ^ 149 ≡ 0
tiny p h = div-eq_of_lt (lt_of_lt_of_le h (pow_mono {i = 28} {j = 149} (omega arith)))

-- ---- a power above 0: the digits behind a leading one
floor_power : (k b x : ℕ) → b < 0x7f80_0000 → b / 8388608 ≡ suc x → floor_times k (of_bits binary32 b) ≡ k * ((8388608 + b % 8388608) * 2 ^ x) / 2 ^ 149
floor_power k b x h z =
    floor_of_value k (of_bits binary32 b) false ((8388608 + b % 8388608) * 2 ^ x) (2 ^ 149) (pow_pos 149)
    (subst (λ (y : Float). HasValue y false ((8388608 + b % 8388608) * 2 ^ x) (2 ^ 149)) (sym (fields b h ∙ ap (λ (n : ℕ). of_fields binary32 false n (b % 8388608)) z))
    (value_normal false x (b % 8388608) (omega arith)))

cut : (p x : ℕ) → x ≤ 149 → p * 2 ^ x / 2 ^ 149 ≡ p / 2 ^ (149 - x)
cut p x h =
    ap (λ (n : ℕ). p * 2 ^ x / n) (ap (λ (n : ℕ). 2 ^ n) (sum x h) ∙ pow-add 2 (149 - x) x) ∙ mul-div-mul_right p (2 ^ (149 - x)) (pow_pos x)
  where
    sum : (x : ℕ) → x ≤ 149 → 149 ≡ 149 - x + x
    sum x h = omega arith

pred_of : (n : ℕ) → 0 < n → (x : ℕ) × (n ≡ suc x)
pred_of zero h = absurd (not_lt h)
  where
    not_lt : 0 < 0 → ⊥
    not_lt h = omega arith
pred_of (suc x) h = (x, refl)

-- up to a power of 149 the code's shift
floor_normal : (k b : ℕ) → b < 0x7f80_0000 → 0 < b / 8388608 → b / 8388608 < 150
    → floor_times k (of_bits binary32 b) ≡ k * (8388608 + b % 8388608) / 2 ^ (150 - b / 8388608)
floor_normal k b h p q =
    let w = pred_of (b / 8388608) p in
    let x = w.0 in
    let e : b / 8388608 ≡ suc x = w.1 in
    floor_power k b x h e
    ∙ ap (λ (n : ℕ). n / 2 ^ 149) (sym (mul_assoc k (8388608 + b % 8388608) (2 ^ x)))
    ∙ cut (k * (8388608 + b % 8388608)) x (omega arith)
    ∙ ap (λ (n : ℕ). k * (8388608 + b % 8388608) / 2 ^ n) (same x (b / 8388608) e)
  where
    same : (x f : ℕ) → f ≡ suc x → 149 - x ≡ 150 - f
    same x f e = omega arith

-- from 150 on the bound
floor_large : (k b : ℕ) → 1 ≤ k → b < 0x7f80_0000 → 150 ≤ b / 8388608 → large ≤ floor_times k (of_bits binary32 b)
floor_large k b one h q =
    let w = pred_of (b / 8388608) (omega arith) in
    let x = w.0 in
    let e : b / 8388608 ≡ suc x = w.1 in
    subst (λ (n : ℕ). 8388608 ≤ n) (sym (floor_power k b x h e))
    ((le-div_iff_mul-le {k = 2 ^ 149} {x = 8388608} {y = k * ((8388608 + b % 8388608) * 2 ^ x)} (pow_pos 149)).1
    (subst (λ (n : ℕ). n ≤ k * ((8388608 + b % 8388608) * 2 ^ x)) (one-mul (8388608 * 2 ^ 149))
    (mul-le-mul one (mul-le-mul (le-add_right 8388608 (b % 8388608)) (pow_mono {i = 149} {j = x} (omega arith))))))

pub shifted_out : (n by : ℕ) → n < 2 ^ 32 → 32 ≤ by → 0 ≡ n / 2 ^ by
shifted_out n by h l = sym (div-eq_of_lt (lt_of_lt_of_le h (pow_mono l)))

pub times_le : (k t n : ℕ) → k ≤ 10 → t ≤ n → k * t ≤ 10 * n
times_le k t n h l = mul-le-mul h l

-- ---- the code's three cases, by the power
module _ (k b : ℕ) (finite : b < 0x7f80_0000) where
  abbrev held : ℕ
  held = min (floor_times k (of_bits binary32 b)) large

  pub held_small : k ≤ 10 → b / 8388608 ≡ 0 → k * (b % 8388608) / 2 ^ 149 ≡ held
  held_small ten z =
      let e = floor_small k b finite z in
      let t = tiny (k * (b % 8388608)) (omega (arith, times_le k (b % 8388608) 8388608 ten (omega arith))) in
      t ∙ sym (nothing (floor_times k (of_bits binary32 b)) (e ∙ t))
    where
      nothing : (n : ℕ) → n ≡ 0 → min n large ≡ 0
      nothing n e = omega arith

  pub held_normal : (b / 8388608 ≡ 0 → ⊥) → b / 8388608 < 150 → min (k * (8388608 + b % 8388608) / 2 ^ (150 - b / 8388608)) large ≡ held
  held_normal z q = ap (λ (n : ℕ). min n large) (sym (floor_normal k b finite (pos_of_ne-zero z) q))

  pub held_below : (w : ℕ) → (b / 8388608 ≡ 0 → ⊥) → b / 8388608 < 150 → w ≡ k * (8388608 + b % 8388608) / 2 ^ (150 - b / 8388608) → w < 8388608 → w ≡ held
  held_below w z q e h = under w h ∙ ap (λ (n : ℕ). min n large) e ∙ held_normal z q
    where
      under : (n : ℕ) → n < large → n ≡ min n large
      under n h = omega arith

  pub held_beyond : (w : ℕ) → (b / 8388608 ≡ 0 → ⊥) → b / 8388608 < 150 → w ≡ k * (8388608 + b % 8388608) / 2 ^ (150 - b / 8388608) → 8388608 ≤ w → large ≡ held
  held_beyond w z q e h = over w h ∙ ap (λ (n : ℕ). min n large) e ∙ held_normal z q
    where
      over : (n : ℕ) → large ≤ n → large ≡ min n large
      over n h = omega arith

  pub held_large : 1 ≤ k → 150 ≤ b / 8388608 → large ≡ held
  held_large one q = omega (arith, floor_large k b one finite q)

-- ---- the answer
pub whole_unusable : (k : ℕ) (x : Float) → unusable x ≡ true → whole_of k x ≡ refused 22
unfolding whole_of
whole_unusable k x h = pick_true _ _ _ h

pub whole_usable : (k : ℕ) (x : Float) → unusable x ≡ false → whole_of k x ≡ gives (min (floor_times k x) large)
unfolding whole_of
whole_usable k x h = pick_false _ _ _ h

pub whole_minus_zero : (k : ℕ) → whole_of k (of_bits binary32 0x8000_0000) ≡ gives 0
unfolding whole_of of_bits floor_times unusable pick
whole_minus_zero k = ap (λ (n : ℕ). gives (min n large)) (zero_times k)
  where
    zero_times : (k : ℕ) → k * 0 / 1 ≡ 0
    zero_times k = omega arith
