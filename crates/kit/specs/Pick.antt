-- Choice by a test, the rules by which `search picks` closes a return, and the rules that take tests apart.
-- Assumes nothing.
use Rattle.std.specs.Prelude.{Bool, true, false, ◌&&◌, ◌||◌, not, ◌≡◌, refl, ℕ, ◌≤◌, ◌<◌, eqb, leb, ltb}
use Rattle.std.proofs.Common.{true≢false, sym, arith, lt-ltb, le-ltb, le-leb, eq-eqb, ne_eqb, ltb-true, leb-true, eqb-true}
use Rattle.std.proofs.lemmas.Bool.{lt-leb, eqb-false}

unfoldable pub pick : {A : Type 0} → Bool → A → A → A
pick true a b = a
pick false a b = b

pub pick_true : {A : Type 0} (t : Bool) (a b : A) → t ≡ true → pick t a b ≡ a
unfolding pick
pick_true t a b e = rw e

pub pick_false : {A : Type 0} (t : Bool) (a b : A) → t ≡ false → pick t a b ≡ b
unfolding pick
pick_false t a b e = rw e

pub not_of_true : (t : Bool) → t ≡ true → not t ≡ false
not_of_true t e = rw e

pub not_of_false : (t : Bool) → t ≡ false → not t ≡ true
not_of_false t e = rw e

pub and_both : (t u : Bool) → t ≡ true → u ≡ true → (t && u) ≡ true
and_both t u e f = rw (e, f)

pub and_next : (t u : Bool) → t ≡ true → (t && u) ≡ u
and_next t u e = rw e

pub and_left : (t u : Bool) → t ≡ false → (t && u) ≡ false
and_left t u e = rw e

pub and_right : (t u : Bool) → u ≡ false → (t && u) ≡ false
and_right true u e = e
and_right false u e = refl

pub or_left : (t u : Bool) → t ≡ true → (t || u) ≡ true
or_left t u e = rw e

pub or_right : (t u : Bool) → u ≡ true → (t || u) ≡ true
or_right true u e = refl
or_right false u e = e

pub or_neither : (t u : Bool) → t ≡ false → u ≡ false → (t || u) ≡ false
or_neither t u e f = rw (e, f)

-- in an arm of a `match` on x: x is k, so it is not n
pub eqb_else : (x n k : ℕ) → x ≡ k → eqb k n ≡ false → eqb x n ≡ false
eqb_else x n k e f = rw e f

pub ruleset picks = (pick_true, pick_false, lt-ltb, le-ltb, le-leb, lt-leb, eq-eqb, ne_eqb, not_of_true, not_of_false, and_both, and_left, and_right, or_left, or_right, or_neither, eqb_else)

-- ---- a claim about a choice, from the claim about each side
pub pick_case : {A : Type 0} (P : A → Type 0) (t : Bool) (a b : A) → (t ≡ true → P a) → (t ≡ false → P b) → P (pick t a b)
unfolding pick
pick_case P true a b f g = f refl
pick_case P false a b f g = g refl

-- a test that came out both ways shows anything
pub no : {A : Type 0} → true ≡ false → A
no e = absurd (true≢false e)

-- a claim by the cases of a test
pub either : {P : Type 0} (t : Bool) → (t ≡ true → P) → (t ≡ false → P) → P
either true f g = f refl
either false f g = g refl

pub pick_le : (t : Bool) (a b k : ℕ) → a ≤ k → b ≤ k → pick t a b ≤ k
unfolding pick
pick_le true a b k f g = f
pick_le false a b k f g = g

pub le_pick : (t : Bool) (a b k : ℕ) → k ≤ a → k ≤ b → k ≤ pick t a b
unfolding pick
le_pick true a b k f g = f
le_pick false a b k f g = g

-- a check that did not refuse, and the rest of the chain; h is `refl`
pub passed : (t : Bool) (n rest : ℕ) → eqb n 0 ≡ false → pick t n rest ≡ 0 → (t ≡ false) × (rest ≡ 0)
unfolding pick
passed true n rest h e = absurd (eqb-false n 0 h e)
passed false n rest h e = (refl, e)

-- ---- from a test to its parts, for `search parts depth 24 fits 4000`
pub and_l : (a b : Bool) → (a && b) ≡ true → a ≡ true
and_l true b e = refl
and_l false b e = e

pub and_r : (a b : Bool) → (a && b) ≡ true → b ≡ true
and_r true b e = e
and_r false true e = refl
and_r false false e = e

pub implied : (a b : Bool) → (not a || b) ≡ true → a ≡ true → b ≡ true
implied true b e h = e
implied false true e h = refl
implied false false e h = h

pub or_else : (a b : Bool) → (a || b) ≡ true → a ≡ false → b ≡ true
or_else true true e h = refl
or_else true false e h = sym h
or_else false b e h = e

pub not_is : (a : Bool) → not a ≡ true → a ≡ false
not_is true e = sym e
not_is false e = refl

pub ruleset parts = (and_l, and_r, implied, or_else, not_is, leb-true, ltb-true, eqb-true)

-- ---- from the parts to the test
pub implies_test : (a b : Bool) → (a ≡ true → b ≡ true) → (not a || b) ≡ true
implies_test true b f = f refl
implies_test false b f = refl

pub or_test : (a b : Bool) → (a ≡ false → b ≡ true) → (a || b) ≡ true
or_test true b f = refl
or_test false b f = f refl

pub ruleset wholes = (and_both, implies_test, or_test, le-leb, lt-ltb, eq-eqb, not_of_false)

-- ---- where a `match` has ranges: a bound by one numeral tells a test against another
pub ne_below : (a b m : ℕ) → a < m → leb m b ≡ true → eqb a b ≡ false
ne_below a b m h t = let t' : m ≤ b = leb-true _ _ t in ne_eqb a b (omega arith)

pub ne_above : (a b m : ℕ) → m ≤ a → ltb b m ≡ true → eqb a b ≡ false
ne_above a b m h t = let t' : b < m = ltb-true _ _ t in ne_eqb a b (omega arith)

pub leb_below : (a b m : ℕ) → b < m → leb m a ≡ true → leb a b ≡ false
leb_below a b m h t = let t' : m ≤ a = leb-true _ _ t in lt-leb a b (omega arith)

pub ruleset kinds = (picks, ne_below, ne_above, leb_below)
