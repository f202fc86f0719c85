-- What a float's bits stand for, and which floats are usable: of every pattern of 32 bits.
-- Assumes nothing.
use Rattle.std.specs.Prelude.{Bool, true, false, cond, not, ◌≡◌, refl, ℕ, zero, suc, ◌+◌, ◌*◌, ◌/◌, ◌%◌, ◌^◌, ◌≤◌, ◌<◌, T, leb, ltb, eqb, Float}
use Rattle.std.proofs.Common.{true≢false, sym, ap, ◌∙◌, subst, mul_comm, mul_assoc, mul-one, mod-eq_of_lt, lt_irrefl, zero-mul, mul-pos, pos_of_ne-zero, zero-lt-suc, arith, pow_pos, ne_eqb, le-leb, lt-ltb, leb-true, leb-false}
use Rattle.std.proofs.lemmas.Bool.{false≢true, lt-leb}
use Rattle.std.proofs.Math.Nat.{mul-div-mul_right}
use Rattle.std.specs.Float.{nan, inf, fin, binary32}
use Rattle.std.specs.Float.Ieee.{up, down, odd, of_bits, of_fields, lt, ne, is_nan}
use Rattle.std.specs.Float.Ieee.Compare.{differs_from_itself}
use Rattle.std.specs.Float.Ieee.Fits.{down_pos}
use Rattle.std.specs.Float.Ieee.Exact.{HasValue, odd_sign}
use Rattle.kit.specs.Pick.{either}
use Rattle.sighting.specs.Value.{unusable, above, floor_times}

-- ---- the value of a pattern, by its sign, its power and its digits: a fraction over 2 ^ 149
pub value_small : (s : Bool) (digits : ℕ) → HasValue (of_fields binary32 s 0 digits) s digits (2 ^ 149)
unfolding of_fields
value_small s digits = subst (λ (n : ℕ). HasValue (odd 24 s digits 0 149) s n (2 ^ 149)) (mul-one digits) (odd_sign 24 s digits 0 149)

pub value_normal : (s : Bool) (x digits : ℕ) → suc x < 255 → HasValue (of_fields binary32 s (suc x) digits) s ((8388608 + digits) * 2 ^ x) (2 ^ 149)
unfolding of_fields
value_normal s x digits h = rw (ne_eqb (suc x) 255 (λ e. omega arith)) (odd_sign 24 s (8388608 + digits) x 149)

pub fields : (b : ℕ) → b < 0x7f80_0000 → of_bits binary32 b ≡ of_fields binary32 false (b / 8388608) (b % 8388608)
unfolding of_bits
fields b h = rw (lt-leb 2147483648 b (omega arith), mod-eq_of_lt {n = b} {m = 2147483648} (omega arith))

-- ---- a multiple of the value, rounded down
cross : (x y c d : ℕ) → 0 < c → 0 < d → x * c ≡ y * d → x / d ≡ y / c
cross x y c d hc hd e =
    sym (mul-div-mul_right x d hc) ∙ ap (λ (n : ℕ). n / (d * c)) e ∙ ap (λ (n : ℕ). y * d / n) (mul_comm d c) ∙ mul-div-mul_right y c hd

pub floor_of_value : (k : ℕ) (x : Float) (s : Bool) (a c : ℕ) → 0 < c → HasValue x s a c → floor_times k x ≡ k * a / c
unfolding floor_times
floor_of_value k nan s a c h v = elim v [ ]
floor_of_value k (inf t) s a c h v = elim v [ ]
floor_of_value k (fin t m e) s a c h v =
    cross (k * (m * up e)) (k * a) c (down e) h (down_pos e)
    (mul_assoc k (m * up e) c ∙ ap (λ (n : ℕ). k * n) v.1 ∙ sym (mul_assoc k a (down e)))

-- ---- usable or not
plus_usable : (x : Float) (a c : ℕ) → HasValue x false a c → unusable x ≡ false
unfolding unusable
plus_usable nan a c v = elim v [ ]
plus_usable (inf s) a c v = elim v [ ]
plus_usable (fin true m e) a c v = absurd (true≢false v.0)
plus_usable (fin false m e) a c v = refl

minus_unusable : (x : Float) (a c : ℕ) → 0 < a → HasValue x true a c → unusable x ≡ true
unfolding unusable
minus_unusable nan a c p v = elim v [ ]
minus_unusable (inf s) a c p v = elim v [ ]
minus_unusable (fin false m e) a c p v = absurd (false≢true v.0)
minus_unusable (fin true zero e) a c p v =
    absurd (lt_irrefl 0 (subst (λ (n : ℕ). 0 < n) (sym v.1 ∙ ap (λ (n : ℕ). n * c) (zero-mul (up e)) ∙ zero-mul c) (mul-pos p (down_pos e))))
minus_unusable (fin true (suc m) e) a c p v = lt-ltb 0 (suc m) (zero-lt-suc m)

top_unusable : (s b : Bool) → unusable (cond b (inf s) nan) ≡ true
unfolding unusable
top_unusable s true = refl
top_unusable s false = refl

-- an infinity or no number
pub no_number_unusable : (b : ℕ) → 0x7f80_0000 ≤ b % 0x8000_0000 → unusable (of_bits binary32 b) ≡ true
unfolding of_bits of_fields
no_number_unusable b h =
    ap (λ (n : ℕ). unusable (of_fields binary32 (leb 2147483648 b) n (b % 8388608))) (field b h) ∙ top_unusable (leb 2147483648 b) (eqb (b % 8388608) 0)
  where
    field : (b : ℕ) → 0x7f80_0000 ≤ b % 0x8000_0000 → b % 2147483648 / 8388608 ≡ 255
    field b h = omega arith

-- below zero
pub below_zero_unusable : (b : ℕ) → 0x8000_0000 ≤ b → b % 0x8000_0000 < 0x7f80_0000 → (b % 0x8000_0000 ≡ 0 → ⊥) → unusable (of_bits binary32 b) ≡ true
unfolding of_bits
below_zero_unusable b n h z =
    rw (le-leb 2147483648 b n) (go (b % 2147483648 / 8388608) (b % 8388608) (omega arith) (λ f0 t0. z (both b f0 t0)))
  where
    both : (b : ℕ) → b % 2147483648 / 8388608 ≡ 0 → b % 8388608 ≡ 0 → b % 0x8000_0000 ≡ 0
    both b f0 t0 = omega arith

    go : (f t : ℕ) → f < 255 → (f ≡ 0 → t ≡ 0 → ⊥) → unusable (of_fields binary32 true f t) ≡ true
    go zero t l nz = minus_unusable (of_fields binary32 true 0 t) t (2 ^ 149) (pos_of_ne-zero (nz refl)) (value_small true t)
    go (suc x) t l nz = minus_unusable (of_fields binary32 true (suc x) t) ((8388608 + t) * 2 ^ x) (2 ^ 149) (mul-pos (omega arith) (pow_pos x)) (value_normal true x t l)

-- a number that is finite and has no minus sign
pub finite_usable : (b : ℕ) → b < 0x7f80_0000 → unusable (of_bits binary32 b) ≡ false
finite_usable b h = rw (fields b h) (go (b / 8388608) (b % 8388608) (omega arith))
  where
    go : (f t : ℕ) → f < 255 → unusable (of_fields binary32 false f t) ≡ false
    go zero t l = plus_usable (of_fields binary32 false 0 t) t (2 ^ 149) (value_small false t)
    go (suc x) t l = plus_usable (of_fields binary32 false (suc x) t) ((8388608 + t) * 2 ^ x) (2 ^ 149) (value_normal false x t l)

-- the patterns from that of infinity on, but for minus zero's
pub past_infinity_unusable : (b : ℕ) → b < 2 ^ 32 → 0x7f80_0000 ≤ b → (b ≡ 0x8000_0000 → ⊥) → unusable (of_bits binary32 b) ≡ true
past_infinity_unusable b l h z = either (leb 0x7f80_0000 (b % 0x8000_0000))
    (λ t. no_number_unusable b (leb-true _ _ t))
    (λ t. let m = leb-false _ _ t in below_zero_unusable b (omega arith) m (λ e. z (zero_of b l h e)))
  where
    zero_of : (b : ℕ) → b < 2 ^ 32 → 0x7f80_0000 ≤ b → b % 0x8000_0000 ≡ 0 → b ≡ 0x8000_0000
    zero_of b l h e = omega arith

-- ---- the code's float comparisons
-- no number differs from itself, and nothing else does
pub differs_unusable : (x : Float) → ne x x ≡ true → unusable x ≡ true
unfolding unusable
differs_unusable x h = ap unusable (differs_from_itself x (subst T (sym h) tt))

pub same_number : (x : Float) → ne x x ≡ false → T (not (is_nan x))
unfolding is_nan ne
same_number nan h = true≢false h
same_number (inf s) h = tt
same_number (fin s m e) h = tt

-- 500.0 is 500
pub above_500 : (x : Float) → lt (of_bits binary32 1140457472) x ≡ above 500 x
unfolding above lt of_bits
above_500 nan = refl
above_500 (inf true) = refl
above_500 (inf false) = refl
above_500 (fin true m e) = refl
above_500 (fin false m e) = ap (λ (n : ℕ). ltb (500 * down e) n) (mul-one (m * up e))
