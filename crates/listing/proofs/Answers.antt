-- Each way out of the open calls, by what their tests and calls give.
-- Assumes nothing.
use mathlib.Core.List.{List}
use mathlib.Core.Bool.{Bool, true, false}
use mathlib.Core.Path.{◌≡◌, refl, sym, ◌∙◌}
use Prim.Native.Nat.{ℕ, ◌+◌, ◌*◌, ◌^◌, ◌≤◌, ◌<◌, min}
use native.Mathlib.Omega.{arith}
use lib.ListN.{length}
use Rattle.std.proofs.Common.{leb, leb-true, leb-false}
use Rattle.std.proofs.lemmas.Bool.{lt-leb}
use Rattle.kit.specs.Pick.{pick, picks, pick_true, pick_false, pick_case}
use Rattle.kit.specs.Placed.{placed}
use Rattle.listing.specs.Listing.{decimal_of, lines_of, ascii, number_line, put_past, put_after, lines_refused, lines_past, lines_after}
use Rattle.listing.proofs.ListingLaws.{decimal_length}
use Rattle.listing.proofs.PutLaws.{was_put, put_same, put_then}

-- ---- put_text, put_decimal, put_number_line
module _ (out : List ℕ) (at most : ℕ) (text : List ℕ) {fits : Bool} (is : fits ≡ leb (at + most) (length out)) where
  pub no_room : fits ≡ false → (at ≡ put_past out at most text) × (out ≡ put_after out at most text)
  unfolding put_past put_after
  no_room h = let t = sym is ∙ h in (sym (pick_false _ _ _ t), sym (pick_false _ _ _ t))

  pub room : {after : List ℕ} {past : ℕ} → fits ≡ true → past ≡ at + length text → after ≡ placed out at text
      → (past ≡ put_past out at most text) × (after ≡ put_after out at most text)
  unfolding put_past put_after
  room h e f = let t = sym is ∙ h in (e ∙ sym (pick_true _ _ _ t), f ∙ sym (pick_true _ _ _ t))

-- a line of a name and a number, in three parts
pub line_put : (out : List ℕ) (at : ℕ) (name : List ℕ) (n : ℕ) {one two after : List ℕ} {a b past : ℕ} {fits : Bool} → fits ≡ leb (at + (length name + 21)) (length out) → fits ≡ true → n < 10 ^ 20
    → (a ≡ put_past out at (length name) name) × (one ≡ put_after out at (length name) name)
    → (b ≡ put_past one a 20 (decimal_of n)) × (two ≡ put_after one a 20 (decimal_of n))
    → (past ≡ put_past two b 1 (ascii "\n")) × (after ≡ put_after two b 1 (ascii "\n"))
    → (past ≡ put_past out at (length name + 21) (number_line name n)) × (after ≡ put_after out at (length name + 21) (number_line name n))
unfolding ascii number_line
line_put out at name n {one} {two} {a = a} {b = b} t fit small e f g =
    let h : at + (length name + 21) ≤ length out = leb-true _ _ (sym t ∙ fit) in
    let p = was_put out at (length name) name (omega arith) (omega arith) e in
    let l = put_same p (omega arith) in
    let q = was_put one a 20 (decimal_of n) (omega (arith, p.index)) (decimal_length 19 n small) f in
    let m = put_same q (omega (arith, p.index)) in
    let r = was_put two b 1 (ascii "\n") (omega (arith, p.index, q.index, q.short)) (omega arith) g in
    let s = put_then (put_then p q (omega arith)) r (omega arith) in
    room out at (length name + 21) (number_line name n) t fit s.index s.slice

-- ---- put_lines
either : {A : Type 0} (t : Bool) (a b : A) → a ≡ b → a ≡ pick t a b
either t a b e = pick_case (λ x. a ≡ x) t a b (λ z. refl) (λ z. e)

module _ (out : List ℕ) (at first : ℕ) (ws vs : List ℕ) where
  -- a slice is shorter than 2^63, so that the bound on the product changes nothing
  module _ {fits : Bool} {size : ℕ} (is : fits ≡ leb (at + size) (length out)) (least : size ≡ min (length ws * 64) 18446744073709551615) (small : length out < 2 ^ 63) where
    pub lines_short : fits ≡ false → (at ≡ lines_past out at first ws vs) × (out ≡ lines_after out at first ws vs)
    unfolding lines_past lines_after
    lines_short h =
        let over : length out < at + 64 * length ws = omega (arith, leb-false _ _ (sym is ∙ h)) in
        let n = no_room out at (64 * length ws) (lines_of first ws vs) refl (lt-leb _ _ over) in
        (either _ _ _ n.0, either _ _ _ n.1)

    pub lines_fit : fits ≡ true → at + 64 * length ws ≤ length out
    lines_fit h = omega (arith, leb-true _ _ (sym is ∙ h))

  pub lines_past_lem : 18446744073709551615 < first + length ws → (at ≡ lines_past out at first ws vs) × (out ≡ lines_after out at first ws vs)
  unfolding lines_past lines_after lines_refused
  lines_past_lem h = (search picks, search picks)

  pub lines_few : length vs < length ws → (at ≡ lines_past out at first ws vs) × (out ≡ lines_after out at first ws vs)
  unfolding lines_past lines_after lines_refused
  lines_few h = (search picks, search picks)

  pub lines_put : {after : List ℕ} {past : ℕ} → at + 64 * length ws ≤ length out → first + length ws ≤ 18446744073709551615 → length ws ≤ length vs
      → past ≡ at + length (lines_of first ws vs) → after ≡ placed out at (lines_of first ws vs) → (past ≡ lines_past out at first ws vs) × (after ≡ lines_after out at first ws vs)
  unfolding lines_past lines_after lines_refused put_past put_after
  lines_put h g k e f = rw (e, f) (search picks, search picks)
