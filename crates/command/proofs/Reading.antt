-- What the loop of read_number keeps, and what it answers by it.
-- Assumes nothing.
use Rattle.std.proofs.Common.{true, false, ◌&&◌, not, List, [], ◌∷◌, ◌≡◌, refl, sym, ap, ◌∙◌, ℕ, ◌+◌, ◌-◌, ◌*◌, ◌≤◌, ◌<◌, arith, length, drop, get_or, eqb, leb, Some, None}
use Rattle.std.proofs.Math.Numerals.{add-one}
use Rattle.std.proofs.Math.ListN.{drop_of_length-le}
use Rattle.std.proofs.Math.Seq.{drop-cons}
use Rattle.std.proofs.lemmas.Bool.{le-leb, eq-eqb, ne_eqb}
use Rattle.kit.specs.Pick.{pick_true, pick_false, and_both, and_left, not_of_true, not_of_false, picks}
use Rattle.command.specs.Number.{is_digit, all_digits, value_from, is_number, number_in}
use Rattle.command.proofs.NumberLaws.{value_rises}

no_number : (text : List ℕ) → is_number text ≡ false → None ≡ number_in text
unfolding number_in
no_number text h = sym (pick_false _ _ _ h)

-- no text
pub none_typed : (text : List ℕ) → length text ≡ 0 → None ≡ number_in text
unfolding is_number
none_typed text h = no_number text (and_left _ _ (and_left _ _ (not_of_true _ (eq-eqb _ _ h))))

-- ---- the digits from index i on are left, behind the value of those before
pub record Left (text : List ℕ) (value i : ℕ) : Type 0 where
  pub within : i ≤ length text
  pub small : value ≤ 4294967295
  pub digits : all_digits (drop i text) ≡ all_digits text
  pub whole : value_from value (drop i text) ≡ value_from 0 text

pub all_left : (text : List ℕ) → Left text 0 0
all_left text = record { within = omega arith; small = omega arith; digits = refl; whole = refl }

module _ (text : List ℕ) (value i : ℕ) (left : Left text value i) (more : i < length text) where
  abbrev byte : ℕ
  byte = get_or text i 0

  next : drop i text ≡ byte ∷ drop (i + 1) text
  next = rw add-one (drop-cons text i 0 more)

  pub no_digit : (leb 48 byte && leb byte 57) ≡ false → None ≡ number_in text
  unfolding is_number all_digits is_digit
  no_digit h =
      let all : all_digits text ≡ false = sym left.digits ∙ rw next (and_left _ _ h) in
      no_number text (search picks)

  further : value_from (10 * value + (byte - 48)) (drop (i + 1) text) ≡ value_from 0 text
  unfolding value_from
  further = rw next at left.whole

  pub too_large : 4294967295 < 10 * value + (byte - 48) → None ≡ number_in text
  unfolding is_number
  too_large h =
      let most = value_rises (10 * value + (byte - 48)) (drop (i + 1) text) in
      let over : 4294967295 < value_from 0 text = omega (arith, further) in
      no_number text (search picks)

  pub fewer_left : {more : ℕ} → (leb 48 byte && leb byte 57) ≡ true → more ≡ 10 * value + (byte - 48) → more ≤ 4294967295 → Left text more (i + 1)
  unfolding all_digits is_digit
  fewer_left h e s = record { within = omega arith; small = s; digits = rw (next, h) at left.digits; whole = rw e further }

pub none_left : (text : List ℕ) (value i : ℕ) → Left text value i → (length text ≡ 0 → ⊥) → length text ≤ i → Some value ≡ number_in text
unfolding number_in is_number all_digits value_from
none_left text value i left some h =
    let end : drop i text ≡ [] = drop_of_length-le text h in
    let all : all_digits text ≡ true = sym (rw end at left.digits) in
    let is : value ≡ value_from 0 text = rw end at left.whole in
    let test : (not (eqb (length text) 0) && all_digits text && leb (value_from 0 text) 4294967295) ≡ true
    = and_both _ _ (and_both _ _ (not_of_false _ (ne_eqb _ _ some)) all) (le-leb (value_from 0 text) 4294967295 (omega (arith, left.small))) in
    ap Some is ∙ sym (pick_true _ _ _ test)
