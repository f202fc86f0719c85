-- The lines of a result, put one after another.
-- Assumes nothing.
use mathlib.Core.List.{List}
use mathlib.Core.Path.{◌≡◌, refl, sym, ◌∙◌}
use Prim.Native.Nat.{ℕ, ◌≤◌}
use native.Mathlib.Nat.{add-zero, zero-add}
use native.Mathlib.Omega.{arith}
use borrow.Author.Tests.{le-ltb, eq-eqb, ne_eqb}
use lib.ListN.{length}
use Rattle.kit.specs.Pick.{pick_true, pick_false}
use Rattle.kit.specs.Placed.{placed, placed_nothing}
use Rattle.event.specs.declared.refusal.Refusal.{Refusal}
use Rattle.event.specs.Refusal.{refusal_number}
use Rattle.event.proofs.RefusalLaws.{number_pos}
use Rattle.listing.specs.Listing.{refused_text}
use Rattle.listing.specs.Put.{Put}
use Rattle.listing.proofs.PutLaws.{put_then}
use Rattle.cleaning.specs.Cleaning.{end_refusal}
use Rattle.marking.specs.declared.Stage.{Stage}
use Rattle.marking.specs.Marking.{passed_text, seconds_text, refusal_text, result_text}
use Rattle.marking.specs.Pieces.{end_text, end_in}

-- ---- the line of a refusal
pub none_put : (out : List ℕ) (at : ℕ) → Put out at (refusal_text 0) 29 out at
unfolding refusal_text
none_put out at = rw (pick_true _ _ _ (eq-eqb 0 0 refl)) (record { index = sym (add-zero at); slice = sym (placed_nothing out at); short = omega arith })

pub some_put : (r : Refusal) → refusal_text (refusal_number r) ≡ refused_text (refusal_number r)
unfolding refusal_text
some_put r = pick_false _ _ _ (ne_eqb (refusal_number r) 0 (λ e. number_pos r _ refl e))

-- ---- all of them
module _ (out : List ℕ) (s : Stage) (held : ℕ) where
  pub end_put : {one two after : List ℕ} {a b refusal past : ℕ} → 85 ≤ length out → Put out 0 (passed_text s.passed) 27 one a → Put one a (seconds_text s.seconds) 29 two b
      → refusal ≡ end_refusal held → Put two b (refusal_text refusal) 29 after past → (past ≡ length (end_in out s held)) × (after ≡ placed out 0 (end_in out s held))
  unfolding end_in end_text result_text
  end_put h p q e r =
      let t = put_then (put_then p q (omega arith)) (rw e at r) (omega arith) in
      rw (pick_false _ _ _ (le-ltb (length out) 85 h)) (t.index ∙ zero-add _, t.slice)
