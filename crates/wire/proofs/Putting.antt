-- The bytes of words put into a slice: one turn of the loop over the words that fit, and its end.
-- Assumes nothing.
use mathlib.Core.List.{List, [], ◌∷◌}
use mathlib.Core.Path.{◌≡◌, ◌∙◌}
use Prim.Native.Nat.{ℕ, ◌+◌, ◌-◌, ◌*◌, ◌/◌, ◌≤◌, ◌<◌, min}
use native.Mathlib.Nat.{zero-add}
use native.Mathlib.Omega.{arith}
use lib.ListN.{length, take, get_or}
use borrow.Rule.Slice.PartMut.{put_mid}
use Rattle.std.proofs.lemmas.List.{take_more, take_all, length-take-le}
use Rattle.std.specs.Int.{w32, to_le_bytes}
use Rattle.kit.specs.Placed.{placed, placed_more, placed_copied, placed_first}
use Rattle.wire.specs.Wire.{bytes_of, bytes_count, bytes_after}
use Rattle.wire.proofs.WireLaws.{bytes_length, bytes_append, bytes_taken}

-- the words that fit
module _ (words bytes₀ : List ℕ) {count : ℕ} (all : count ≡ min (length words) (length bytes₀ / 4)) where
  abbrev ws : List ℕ
  ws = take count words

  turns : length ws ≡ count
  turns = length-take-le count words (omega arith)

  pub put_again : (bytes : List ℕ) (i : ℕ) {run : List ℕ} → bytes ≡ placed bytes₀ 0 (bytes_of (take i ws)) → i < length ws → run ≡ to_le_bytes w32 (get_or ws i 0)
      → put_mid (4 * i) (4 * i + 4 - 4 * i) bytes run ≡ placed bytes₀ 0 (bytes_of (take (i + 1) ws))
  unfolding bytes_of
  put_again bytes i {run = run} e h f =
      let size : length (bytes_of (take i ws)) ≡ 4 * i = bytes_length (take i ws) ∙ rw (length-take-le i ws (omega arith)) in
      let four : length run ≡ 4 = rw f in
      placed_copied bytes run (4 * i) (4 * i + 4) (omega arith)
      ∙ rw (e, take_more ws i 0 h, bytes_append, f) (rw (zero-add, size) at (placed_more bytes₀ 0 (bytes_of (take i ws)) (bytes_of (get_or ws i 0 ∷ [])) (omega arith)))

  pub put_all : (bytes : List ℕ) (i : ℕ) → bytes ≡ placed bytes₀ 0 (bytes_of (take i ws)) → length ws ≤ i
      → (4 * count ≡ bytes_count words bytes₀) × (bytes ≡ bytes_after words bytes₀)
  unfolding bytes_count bytes_after
  put_all bytes i e h =
      let size : length (bytes_of ws) ≡ 4 * count = bytes_length ws ∙ rw turns in
      (rw all, e ∙ rw (take_all i ws h, placed_first, size) (rw (← all, bytes_taken count words)))
