-- The words of some bytes, four bytes at a time; the first of them at the front of a slice: one turn of the loop that fills it, and its end.
-- Assumes nothing.
use mathlib.Core.List.{List, [], ◌++◌}
use mathlib.Core.Path.{◌≡◌, refl, sym, ◌∙◌}
use Prim.Native.Nat.{ℕ, zero, suc, ◌+◌, ◌*◌, ◌/◌, ◌≤◌, ◌<◌, min}
use native.Mathlib.Nat.{zero-add, add-zero}
use native.Mathlib.Numerals.{add-one}
use native.Mathlib.Omega.{arith}
use lib.ListN.{length, take, drop, get_or, set}
use lib.Seq.{paste-suc, drop-drop, get_or-take, length-take-le}
use Rattle.std.specs.Int.{w32, from_le_bytes}
use Rattle.std.specs.Array.{IsFirstChunk}
use Rattle.std.specs.List.{slice_range}
use Rattle.std.specs.Simd.{first_chunks}
use Rattle.std.proofs.lemmas.Slice.{between_to_end}
use Rattle.std.proofs.lemmas.List.{get_or-drop, length-drop}
use Rattle.wire.specs.Wire.{joined, word_at, words_of, words_count, words_after}
use Rattle.wire.proofs.WireLaws.{word_within, words_length, words_at}

-- ---- four bytes are a word
four_joined : (bs : List ℕ) (at : ℕ)
    → from_le_bytes w32 (take 4 (drop at bs)) ≡ joined (get_or bs at 0) (get_or bs (at + 1) 0) (get_or bs (at + 2) 0) (get_or bs (at + 3) 0)
four_joined bs at = rw (each 0 (omega arith), each 1 (omega arith), each 2 (omega arith), each 3 (omega arith), add-zero)
  where
    each : (j : ℕ) → j < 4 → get_or (take 4 (drop at bs)) j 0 ≡ get_or bs (at + j) 0
    each j h = get_or-take 4 (drop at bs) j 0 h ∙ get_or-drop at bs j 0

pub word_read : (bs : List ℕ) (at : ℕ) {rest four : List ℕ} {w : ℕ} → rest ≡ slice_range bs at (length bs) → IsFirstChunk rest four 4 → w ≡ from_le_bytes w32 four → w ≡ word_at bs at
word_read bs at r f e =
    let tail : slice_range bs at (length bs) ≡ drop at bs = between_to_end bs at (length bs) (omega arith) in
    let long : 4 ≤ length (drop at bs) = rw (r, tail) at f.enough in
    rw (e, f.same, r, tail) (four_joined bs at ∙ sym (word_within bs at (omega (arith, length-drop at bs))))

chunk_at : (k i : ℕ) (bs : List ℕ) → i < k → get_or (first_chunks 4 k bs) i [] ≡ take 4 (drop (4 * i) bs)
chunk_at zero i bs h = absurd (omega arith)
chunk_at (suc k) zero bs h = refl
chunk_at (suc k) (suc i) bs h = let past : 4 * suc i ≡ 4 + 4 * i = omega arith in chunk_at k i (drop 4 bs) (omega arith) ∙ rw (drop-drop, past)

chunk_word : (bs : List ℕ) (i : ℕ) → i < length bs / 4 → from_le_bytes w32 (get_or (first_chunks 4 (length bs / 4) bs) i []) ≡ get_or (words_of bs) i 0
chunk_word bs i h = rw (chunk_at (length bs / 4) i bs h) (four_joined bs (4 * i) ∙ sym (words_at bs i h))

-- ---- the loop over the chunks that fit
module _ (bs d : List ℕ) {n : ℕ} {chunks : List (List ℕ)} (front : chunks ≡ first_chunks 4 (length bs / 4) bs) (long : length chunks ≡ length bs / 4) (fit : n ≡ min (length chunks) (length d)) where
  turns : length (take n chunks) ≡ n
  turns = length-take-le n chunks (omega arith)

  pub fill_more : (ws : List ℕ) (i : ℕ) {w : ℕ} → ws ≡ take i (words_of bs) ++ drop i d → i < length (take n chunks) → w ≡ from_le_bytes w32 (get_or (take n chunks) i [])
      → set ws i w ≡ take (i + 1) (words_of bs) ++ drop (i + 1) d
  fill_more ws i {w = w} e h f =
      let at : i < length bs / 4 = omega (arith, turns) in
      let word : w ≡ get_or (words_of bs) i 0 = f ∙ rw (get_or-take n chunks i [] (omega (arith, turns)), front) (chunk_word bs i at) in
      rw (e, word, add-one) (simp zero-add at (paste-suc d 0 (words_of bs) i 0 (omega (arith, zero-add i, turns)) (omega (arith, words_length bs))))

  pub fill_all : (ws : List ℕ) (i : ℕ) → ws ≡ take i (words_of bs) ++ drop i d → i ≤ length (take n chunks) → length (take n chunks) ≤ i
      → (n ≡ words_count bs d) × (ws ≡ words_after bs d)
  unfolding words_count words_after
  fill_all ws i e h k =
      let is : i ≡ n = omega (arith, turns) in
      let count : n ≡ min (length bs / 4) (length d) = fit ∙ rw long in
      (count, e ∙ rw (is, ← count))
