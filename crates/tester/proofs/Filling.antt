-- A slice filled with zeros, and the words that there are copied over its first places.
-- Assumes nothing.
use Rattle.std.proofs.Common.{List, [], ◌∷◌, ◌++◌, ◌≡◌, refl, ap, ℕ, zero, suc, ◌≤◌, ◌<◌, arith, length, take, drop, replicate, min, not-suc-le-zero}
use Rattle.tester.specs.Input.{first_of}

pub zeros : (n : ℕ) → replicate n 0 ≡ first_of n []
unfolding first_of
zeros zero = refl
zeros (suc n) = ap (0 ∷◌) (zeros n)

pub copied : (k n : ℕ) (ws : List ℕ) → k ≤ n → k ≤ length ws → (k < n → length ws ≤ k) → take k ws ++ drop k (replicate n 0) ≡ first_of n ws
unfolding first_of
copied zero n [] a b h = zeros n
copied zero zero (w ∷ ws) a b h = refl
copied zero (suc n) (w ∷ ws) a b h = absurd (not-suc-le-zero (h (omega arith)))
copied (suc k) zero ws a b h = absurd (not-suc-le-zero a)
copied (suc k) (suc n) [] a b h = absurd (not-suc-le-zero b)
copied (suc k) (suc n) (w ∷ ws) a b h = ap (w ∷◌) (copied k n ws (omega arith) (omega arith) (λ c. let g = h (omega arith) in omega arith))

pub filled : (rest ws into zeroed over : List ℕ) (k : ℕ) → rest ≡ ws → k ≡ min (length rest) (length into) → zeroed ≡ replicate (length into) 0 → over ≡ take k rest → over ++ drop k zeroed ≡ first_of (length into) ws
filled rest ws into zeroed over k same count z o =
    let len : length rest ≡ length ws = ap length same in
    rw (z, o, same) (copied k (length into) ws (omega arith) (omega (arith, len)) (λ h. omega (arith, len)))
