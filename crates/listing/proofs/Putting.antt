-- Texts put by stores.
-- Assumes nothing.
use mathlib.Core.Path.{refl}
use mathlib.Core.List.{List, [], ◌∷◌}
use Prim.Native.Nat.{ℕ, ◌+◌, ◌≤◌}
use native.Mathlib.Nat.{le_refl}
use native.Mathlib.Numerals.{add-one, add-two, add-three}
use lib.ListN.{length, set}
use lib.Seq.{sets, sets-eq}
use Rattle.kit.specs.Placed.{placed}
use Rattle.listing.specs.Put.{Put}

stored : (out : List ℕ) (at : ℕ) (text : List ℕ) → at + length text ≤ length out → Put out at text (length text) (sets out at text) (at + length text)
unfolding placed
stored out at text h = record { index = refl; slice = sets-eq text out at h; short = le_refl _ }

pub stored_one : (out : List ℕ) (at a : ℕ) → at + 1 ≤ length out → Put out at (a ∷ []) 1 (set out at a) (at + 1)
stored_one out at a h = stored out at (a ∷ []) h

pub stored_two : (out : List ℕ) (at a b : ℕ) → at + 2 ≤ length out → Put out at (a ∷ b ∷ []) 2 (set (set out at a) (at + 1) b) (at + 2)
stored_two out at a b h = rw add-one (stored out at (a ∷ b ∷ []) h)

pub stored_four : (out : List ℕ) (at a b c d : ℕ) → at + 4 ≤ length out
    → Put out at (a ∷ b ∷ c ∷ d ∷ []) 4 (set (set (set (set out at a) (at + 1) b) (at + 2) c) (at + 3) d) (at + 4)
stored_four out at a b c d h = rw (add-one, add-two, add-three) (stored out at (a ∷ b ∷ c ∷ d ∷ []) h)
