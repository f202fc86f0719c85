-- A run of numbers put into a slice, and its laws: one after another, nothing, and one more.
-- Assumes nothing.
use Rattle.std.specs.Prelude.{◌≡◌, List, [], ◌∷◌, ◌++◌, ℕ, ◌+◌, ◌-◌, ◌≤◌, ◌<◌, length, take, drop, set}
use Rattle.std.proofs.Common.{sym, ◌∙◌, append_assoc, append-nil, add-zero, add_assoc, zero-add, add-one, arith, length-append, length-take, length-drop, take-append-drop, take_at, drop-drop, length-take-le}
use Rattle.std.proofs.Math.Seq.{drop-append-add, append_snoc}
use Rattle.std.proofs.lemmas.List.{set_split}
use borrow.Rule.Slice.PartMut.{put_mid, Post-is}

-- the slice with the run from index `at` on
unfoldable pub placed : List ℕ → ℕ → List ℕ → List ℕ
placed out at run = take at out ++ run ++ drop (at + length run) out

pub placed_nothing : (out : List ℕ) (at : ℕ) → placed out at [] ≡ out
unfolding placed
placed_nothing out at = simp (append-nil, add-zero) (take-append-drop at out)

pub placed_length : (out : List ℕ) (at : ℕ) (run : List ℕ) → at + length run ≤ length out → length (placed out at run) ≡ length out
unfolding placed
placed_length out at run h = simp (length-append, length-take, length-drop) (omega arith)

pub placed_more : (out : List ℕ) (at : ℕ) (run more : List ℕ) → at ≤ length out → placed (placed out at run) (at + length run) more ≡ placed out at (run ++ more)
unfolding placed
placed_more out at run more h =
    rw (take_at (take at out ++ run) _ (at + length run) head, ← head, drop-append-add (take at out ++ run), head, drop-drop) (simp (append_assoc, length-append, add_assoc))
  where
    head : length (take at out ++ run) ≡ at + length run
    head = length-append (take at out) run ∙ rw (length-take-le at out h)

-- a store is a run of one
pub placed_one : (out : List ℕ) (at x : ℕ) → at < length out → set out at x ≡ placed out at (x ∷ [])
unfolding placed
placed_one out at x h = set_split out at x h ∙ rw (append_snoc (take at out) x (drop (at + 1) out), add-one)

-- so is what is copied over a part of the slice
pub placed_copied : (out run : List ℕ) (at end : ℕ) → end ≡ at + length run → put_mid at (end - at) out run ≡ placed out at run
unfolding placed
placed_copied out run at end e = rw (Post-is at end out (omega arith), e) (sym (append_assoc (take at out) run _))

-- from the start on
pub placed_first : (out run : List ℕ) → placed out 0 run ≡ run ++ drop (length run) out
unfolding placed
placed_first out run = rw (zero-add (length run))
