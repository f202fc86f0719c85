-- The first words by their number and their places, and a file in their bytes.
-- Assumes nothing.
use Rattle.std.specs.Prelude.{List, [], ◌∷◌, ◌≡◌, refl, ℕ, zero, suc, ◌+◌, ◌≤◌, ◌<◌, min, length, get_or, take}
use Rattle.std.proofs.Common.{ap, ◌∙◌, not-suc-le-zero, arith}
use Rattle.std.proofs.lemmas.List.{take-append-le}
use Rattle.kit.specs.Placed.{placed_first}
use Rattle.wire.specs.Wire.{bytes_of, bytes_after}
use Rattle.wire.proofs.WireLaws.{bytes_fit, bytes_length}
use Rattle.tester.specs.Input.{first_of}
use Rattle.tester.specs.Reading.{words_for}

pub first_length : (n : ℕ) (ws : List ℕ) → length (first_of n ws) ≡ n
unfolding first_of
first_length zero ws = refl
first_length (suc n) [] = ap suc (first_length n [])
first_length (suc n) (w ∷ ws) = ap suc (first_length n ws)

pub first_at : (n : ℕ) (ws : List ℕ) (k : ℕ) → k < n → get_or (first_of n ws) k 0 ≡ get_or ws k 0
unfolding first_of
first_at zero ws k h = absurd (not-suc-le-zero h)
first_at (suc n) [] zero h = refl
first_at (suc n) [] (suc k) h = first_at n [] k (omega arith)
first_at (suc n) (w ∷ ws) zero h = refl
first_at (suc n) (w ∷ ws) (suc k) h = first_at n ws k (omega arith)

-- ---- a file: n bytes are the first of the bytes of as many words as hold them
pub file_read : (n : ℕ) (words into old : List ℕ) → n ≤ 4112 → length old ≡ 4112 → into ≡ first_of (words_for n) words
    → take n (bytes_after into old) ≡ take n (bytes_of (first_of (words_for n) words))
unfolding words_for
file_read n words into old h o e =
    let size : length into ≡ words_for n = ap length e ∙ first_length (words_for n) words in
    rw ((bytes_fit into old (omega (arith, size))).1, placed_first old (bytes_of into))
    (take-append-le n (bytes_of into) _ (omega (arith, bytes_length into, size)) ∙ ap (λ (ws : List ℕ). take n (bytes_of ws)) e)

-- one word read, and then m more
pub past_both : (i m len : ℕ) → min (min (i + 1) len + m) len ≡ min (i + (1 + m)) len
past_both i m len = omega arith
