-- A text gives a number exactly where it is that number's decimal text (`decimal_of`, as the programs print it), with zeros in front or none.
-- Assumes nothing.
use Rattle.std.specs.Prelude.{Bool, true, false, ◌&&◌, not, List, [], ◌∷◌, ◌++◌, ◌≡◌, refl, ℕ, zero, suc, ◌+◌, ◌-◌, ◌*◌, ◌/◌, ◌%◌, ◌^◌, ◌≤◌, ◌<◌, eqb, leb, ltb, length, replicate, Some, None}
use Rattle.std.proofs.Common.{append_assoc, append-nil, sym, ap, ◌∙◌, arith, le-leb, leb-true, ltb-true, ltb-false, ne_eqb, eqb-true, length-append}
use Rattle.std.proofs.lemmas.Bool.{eqb-false}
use Rattle.kit.specs.Pick.{pick, pick_true, and_both, and_l, and_r, not_is, not_of_false}
use Rattle.listing.specs.Listing.{digit, decimal_of}
use Rattle.listing.proofs.ListingLaws.{decimal_one, decimal_more}
use Rattle.command.specs.Number.{is_digit, all_digits, value_from, is_number, number_in}

-- ---- digits one after another
digit_is : (d : ℕ) → d < 10 → is_digit (digit d) ≡ true
unfolding is_digit
digit_is d h = and_both _ _ (le-leb 48 (digit d) (omega arith)) (le-leb (digit d) 57 (omega arith))

all_append : (us vs : List ℕ) → all_digits us ≡ true → all_digits vs ≡ true → all_digits (us ++ vs) ≡ true
unfolding all_digits
all_append [] vs h g = g
all_append (u ∷ us) vs h g = and_both _ _ (and_l (is_digit u) (all_digits us) h) (all_append us vs (and_r (is_digit u) (all_digits us) h) g)

value_append : (n : ℕ) (us vs : List ℕ) → value_from n (us ++ vs) ≡ value_from (value_from n us) vs
unfolding value_from
value_append n [] vs = refl
value_append n (u ∷ us) vs = value_append (10 * n + (u - 48)) us vs

-- a number does not fall by the digits behind it
pub value_rises : (n : ℕ) (bs : List ℕ) → n ≤ value_from n bs
unfolding value_from
value_rises n [] = omega arith
value_rises n (b ∷ bs) = omega (arith, value_rises (10 * n + (b - 48)) bs)

-- ---- a number's decimal text, zeros in front or none
abbrev pub zeros : ℕ → List ℕ
zeros k = replicate k 48

-- digits that say a number
pub record Says (n : ℕ) (text : List ℕ) : Type 0 where
  pub digits : all_digits text ≡ true
  pub value : value_from 0 text ≡ n
  pub some : 1 ≤ length text

says_digit : (d : ℕ) → d < 10 → Says d (digit d ∷ [])
unfolding all_digits value_from
says_digit d h = record { digits = and_both _ _ (digit_is d h) refl; value = omega arith; some = omega arith }

says_more : (n d : ℕ) (text : List ℕ) → d < 10 → Says n text → Says (10 * n + d) (text ++ digit d ∷ [])
unfolding value_from
says_more n d text h s =
    record {
      digits = all_append text (digit d ∷ []) s.digits (says_digit d h).digits;
      value = value_append 0 text (digit d ∷ []) ∙ rw s.value (omega arith);
      some = simp length-append (omega arith);
    }

says_decimal : (k n : ℕ) → n ≤ k → Says n (decimal_of n)
says_decimal zero n h = rw (decimal_one n (omega arith)) (says_digit n (omega arith))
says_decimal (suc k) n h = go (ltb n 10) refl (says_decimal k (n / 10) (omega arith))
  where
    go : (b : Bool) → ltb n 10 ≡ b → Says (n / 10) (decimal_of (n / 10)) → Says n (decimal_of n)
    go true e s = let few : n < 10 = ltb-true n 10 e in rw (decimal_one n few) (says_digit n few)
    go false e s =
        let split : n ≡ 10 * (n / 10) + n % 10 = omega arith in
        rw (decimal_more n (ltb-false n 10 e)) (rw (← split) at (says_more (n / 10) (n % 10) (decimal_of (n / 10)) (omega arith) s))

says_zeros : (k n : ℕ) (text : List ℕ) → Says n text → Says n (zeros k ++ text)
unfolding all_digits value_from is_digit
says_zeros zero n text s = s
says_zeros (suc k) n text s = let t = says_zeros k n text s in record { digits = t.digits; value = t.value; some = omega arith }

-- it is read as that number
pub number_read : (k n : ℕ) → n < 2 ^ 32 → number_in (zeros k ++ decimal_of n) ≡ Some n
unfolding number_in is_number
number_read k n h = is (zeros k ++ decimal_of n) (says_zeros k n (decimal_of n) (says_decimal n n (omega arith)))
  where
    is : (text : List ℕ) → Says n text → pick (not (eqb (length text) 0) && all_digits text && leb (value_from 0 text) 4294967295) (Some (value_from 0 text)) None ≡ Some n
    is text s =
        rw s.value
        (pick_true _ _ _ (and_both _ _ (and_both _ _ (not_of_false _ (ne_eqb (length text) 0 (λ e. omega (arith, s.some)))) s.digits) (le-leb n 4294967295 (omega arith))))

-- ---- and no other text is read as it
digit_range : (b : ℕ) → is_digit b ≡ true → (48 ≤ b) × (b ≤ 57)
unfolding is_digit
digit_range b h = (leb-true 48 b (and_l (leb 48 b) (leb b 57) h), leb-true b 57 (and_r (leb 48 b) (leb b 57) h))

decimal_next : (n b : ℕ) → 1 ≤ n → (48 ≤ b) × (b ≤ 57) → decimal_of (10 * n + (b - 48)) ≡ decimal_of n ++ b ∷ []
decimal_next n b h r =
    let front : (10 * n + (b - 48)) / 10 ≡ n = omega arith in
    let last : digit ((10 * n + (b - 48)) % 10) ≡ b = omega arith in
    rw (front, last) at (decimal_more (10 * n + (b - 48)) (omega arith))

-- digits behind the decimal text of a number above 0
decimal_behind : (n : ℕ) (bs : List ℕ) → 1 ≤ n → all_digits bs ≡ true → decimal_of n ++ bs ≡ decimal_of (value_from n bs)
unfolding all_digits value_from
decimal_behind n [] h a = append-nil _
decimal_behind n (b ∷ bs) h a =
    sym (append_assoc (decimal_of n) (b ∷ []) bs)
    ∙ ap (λ t. t ++ bs) (sym (decimal_next n b h (digit_range b (and_l (is_digit b) (all_digits bs) a))))
    ∙ decimal_behind (10 * n + (b - 48)) bs (omega arith) (and_r (is_digit b) (all_digits bs) a)

pub record Written (n : ℕ) (text : List ℕ) : Type 0 where
  pub front : ℕ
  pub is : text ≡ zeros front ++ decimal_of n

digits_written : (text : List ℕ) → all_digits text ≡ true → 1 ≤ length text → Written (value_from 0 text) text
unfolding all_digits value_from
digits_written [] a h = absurd (omega arith)
digits_written (b ∷ []) a h =
    let r = digit_range b (and_l (is_digit b) true a) in
    record { front = 0; is = ap (λ x. x ∷ []) (omega arith) ∙ sym (decimal_one (10 * 0 + (b - 48)) (omega arith)) }
digits_written (b ∷ c ∷ cs) a h = go (eqb b 48) refl (digits_written (c ∷ cs) (and_r (is_digit b) (all_digits (c ∷ cs)) a) (omega arith))
  where
    first : (48 ≤ b) × (b ≤ 57)
    first = digit_range b (and_l (is_digit b) (all_digits (c ∷ cs)) a)

    go : (t : Bool) → eqb b 48 ≡ t → Written (value_from 0 (c ∷ cs)) (c ∷ cs) → Written (value_from 0 (b ∷ c ∷ cs)) (b ∷ c ∷ cs)
    go true e w = rw (eqb-true b 48 e) (record { front = suc w.front; is = ap (λ t. 48 ∷ t) w.is })
    go false e w =
        let other : (b ≡ 48) → ⊥ = eqb-false b 48 e in
        let r = first in
        let n : 1 ≤ 10 * 0 + (b - 48) = omega arith in
        let one : digit (10 * 0 + (b - 48)) ≡ b = omega arith in
        let d : b ∷ [] ≡ decimal_of (10 * 0 + (b - 48)) = rw one at (sym (decimal_one (10 * 0 + (b - 48)) (omega arith))) in
        record { front = 0; is = ap (λ t. t ++ c ∷ cs) d ∙ decimal_behind (10 * 0 + (b - 48)) (c ∷ cs) n (and_r (is_digit b) (all_digits (c ∷ cs)) a) }

pub number_written : (text : List ℕ) (n : ℕ) → number_in text ≡ Some n → (n < 2 ^ 32) × Written n text
unfolding number_in is_number pick
number_written text n e = go (is_number text) refl e
  where
    go : (t : Bool) → is_number text ≡ t → pick t (Some (value_from 0 text)) None ≡ Some n → (n < 2 ^ 32) × Written n text
    go true t e =
        let value : value_from 0 text ≡ n = cc in
        let typed = and_l (not (eqb (length text) 0) && all_digits text) (leb (value_from 0 text) 4294967295) t in
        let most : value_from 0 text ≤ 4294967295 = leb-true _ _ (and_r (not (eqb (length text) 0) && all_digits text) (leb (value_from 0 text) 4294967295) t) in
        let some : (length text ≡ 0) → ⊥ = eqb-false _ _ (not_is _ (and_l (not (eqb (length text) 0)) (all_digits text) typed)) in
        (omega arith, rw value at (digits_written text (and_r (not (eqb (length text) 0)) (all_digits text) typed) (omega arith)))
    go false t e = let z : ◌≡◌ {A = ℕ} 0 1 = cc in absurd (omega arith)
