-- What a loop that puts a text piece by piece keeps: the rest, put after what was put, gives the whole; and that a piece keeps it.
-- Assumes nothing.
use mathlib.Core.Path.{◌≡◌, refl, sym, ap, ◌∙◌}
use mathlib.Core.List.{List, [], ◌∷◌, ◌++◌}
use Prim.Native.Nat.{ℕ, suc, ◌+◌, ◌*◌, ◌≤◌}
use native.Mathlib.Omega.{arith}
use lib.ListN.{length, length-append}
use Rattle.std.proofs.lemmas.List.{nil_from_length}
use Rattle.kit.specs.Placed.{placed, placed_nothing, placed_length, placed_more}
use Rattle.listing.specs.Listing.{line_of, lines_of}
use Rattle.listing.specs.Put.{Put}

pub record Going (out₀ : List ℕ) (at₀ : ℕ) (whole : List ℕ) (out : List ℕ) (at : ℕ) (rest : List ℕ) : Type 0 where
  pub same : length out ≡ length out₀
  pub index : at + length rest ≡ at₀ + length whole
  pub slice : placed out at rest ≡ placed out₀ at₀ whole

pub begins : (out : List ℕ) (at : ℕ) (whole : List ℕ) → Going out at whole out at whole
begins out at whole = record { same = refl; index = refl; slice = refl }

module _ {out₀ : List ℕ} {at₀ : ℕ} {whole out : List ℕ} {at : ℕ} where
  pub again : {rest : List ℕ} (piece rest' : List ℕ) {most : ℕ} {out' : List ℕ} {at' : ℕ} → Going out₀ at₀ whole out at rest → rest ≡ piece ++ rest' → at + length piece ≤ length out
      → Put out at piece most out' at' → Going out₀ at₀ whole out' at' rest'
  again piece rest' g e h p =
      record {
        same = ap length p.slice ∙ placed_length out at piece h ∙ g.same;
        index = let i = simp length-append at (rw e at g.index) in omega (arith, i, p.index);
        slice = rw (p.slice, p.index) (placed_more out at piece rest' (omega arith)) ∙ rw e at g.slice;
      }

  pub ends : {rest : List ℕ} → Going out₀ at₀ whole out at rest → rest ≡ [] → (at ≡ at₀ + length whole) × (out ≡ placed out₀ at₀ whole)
  ends g e = let i = rw e at g.index in (omega (arith, i), sym (placed_nothing out at) ∙ rw e at g.slice)

-- ---- the loop of put_lines: the lines of the events that are left
module _ (ws vs out₀ : List ℕ) (at₀ first : ℕ) where
  pub record Lining (out : List ℕ) (at number : ℕ) (ws' vs' : List ℕ) : Type 0 where
    pub fits : at₀ + 64 * length ws ≤ length out₀
    pub last : first + length ws ≤ 18446744073709551615
    pub enough : length ws' ≤ length vs'
    pub room : at + 64 * length ws' ≤ at₀ + 64 * length ws
    pub count : number + length ws' ≡ first + length ws
    pub going : Going out₀ at₀ (lines_of first ws vs) out at (lines_of number ws' vs')

  pub lines_begin : at₀ + 64 * length ws ≤ length out₀ → first + length ws ≤ 18446744073709551615 → length ws ≤ length vs → Lining out₀ at₀ first ws vs
  lines_begin g f h = record { fits = g; last = f; enough = h; room = omega arith; count = refl; going = begins _ _ _ }

  module _ {out : List ℕ} {at number : ℕ} {ws' vs' : List ℕ} (l : Lining out at number ws' vs') where
    pub lines_next : {w : ℕ} {ws'' : List ℕ} → ws' ≡ w ∷ ws'' → (at + 64 ≤ length out) × (number + 1 ≤ 18446744073709551615)
    lines_next e = (omega (arith, l.fits, l.room, l.going.same, ap length e), omega (arith, l.last, l.count, ap length e))

    pub lines_again : {w v : ℕ} {ws'' vs'' out' : List ℕ} {at' : ℕ} → ws' ≡ w ∷ ws'' → vs' ≡ v ∷ vs'' → Put out at (line_of number w v) 64 out' at'
        → Lining out' at' (number + 1) ws'' vs''
    unfolding lines_of
    lines_again {w} {v} {ws''} {vs''} e f p =
        record {
          fits = l.fits;
          last = l.last;
          enough = omega (arith, l.enough, size, ap length f);
          room = omega (arith, l.room, size, p.index, p.short);
          count = omega (arith, l.count, size);
          going = again _ _ l.going next (omega (arith, (lines_next e).0, p.short)) p;
        }
      where
        size : length ws' ≡ suc (length ws'')
        size = ap length e

        next : lines_of number ws' vs' ≡ line_of number w v ++ lines_of (number + 1) ws'' vs''
        next = rw (e, f)

    pub lines_end : length ws' ≡ 0 → (at ≡ at₀ + length (lines_of first ws vs)) × (out ≡ placed out₀ at₀ (lines_of first ws vs))
    unfolding lines_of
    lines_end e = ends l.going (rw (nil_from_length ws' e))
