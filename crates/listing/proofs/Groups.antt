-- Digits in groups of two, four and eight after the others.
-- Assumes nothing.
use mathlib.Core.Path.{◌≡◌, ◌∙◌}
use mathlib.Core.List.{◌∷◌, ◌++◌, append_assoc}
use Prim.Native.Nat.{ℕ, ◌/◌, ◌%◌, ◌≤◌, ◌<◌}
use native.Mathlib.Nat.{div-div-eq-div-mul}
use native.Mathlib.Omega.{arith}
use Rattle.listing.specs.Listing.{digit, decimal_of}
use Rattle.listing.proofs.ListingLaws.{decimal_one, decimal_more}
use Rattle.listing.specs.Put.{two_of, four_of, eight_of}

pub decimal_two : (n : ℕ) → 10 ≤ n → n < 100 → decimal_of n ≡ two_of n
unfolding two_of
decimal_two n h g = decimal_more n h ∙ rw (decimal_one (n / 10) (omega arith))

-- a group is the two halves of it
halves_two : (n : ℕ) → (n / 10 % 10 ≡ n % 100 / 10) × (n % 10 ≡ n % 100 % 10)
halves_two n = (omega arith, omega arith)

halves_four : (n : ℕ) → (n / 100 % 100 ≡ n % 10000 / 100) × (n % 100 ≡ n % 10000 % 100)
halves_four n = (omega arith, omega arith)

halves_eight : (n : ℕ) → (n / 10000 % 10000 ≡ n % 100000000 / 10000) × (n % 10000 ≡ n % 100000000 % 10000)
halves_eight n = (omega arith, omega arith)

pub past_two : (n : ℕ) → 100 ≤ n → decimal_of n ≡ decimal_of (n / 100) ++ two_of (n % 100)
unfolding two_of
past_two n h =
    let g₁ = decimal_more n (omega arith) in
    let g₂ = decimal_more (n / 10) (omega arith) in
    g₁ ∙ rw (g₂, div-div-eq-div-mul n 10 10, (halves_two n).0, (halves_two n).1) (simp append_assoc)

pub past_four : (n : ℕ) → 10000 ≤ n → decimal_of n ≡ decimal_of (n / 10000) ++ four_of (n % 10000)
unfolding four_of
past_four n h =
    let g₁ = past_two n (omega arith) in
    let g₂ = past_two (n / 100) (omega arith) in
    g₁ ∙ rw (g₂, div-div-eq-div-mul n 100 100, (halves_four n).0, (halves_four n).1) (simp append_assoc)

pub past_eight : (n : ℕ) → 100000000 ≤ n → decimal_of n ≡ decimal_of (n / 100000000) ++ eight_of (n % 100000000)
unfolding eight_of
past_eight n h =
    let g₁ = past_four n (omega arith) in
    let g₂ = past_four (n / 10000) (omega arith) in
    g₁ ∙ rw (g₂, div-div-eq-div-mul n 10000 10000, (halves_eight n).0, (halves_eight n).1) (simp append_assoc)

pub decimal_three : (n : ℕ) → 100 ≤ n → n < 1000 → decimal_of n ≡ digit (n / 100) ∷ two_of (n % 100)
decimal_three n h g = past_two n h ∙ rw (decimal_one (n / 100) (omega arith))

pub decimal_four : (n : ℕ) → 1000 ≤ n → n < 10000 → decimal_of n ≡ four_of n
unfolding four_of
decimal_four n h g = past_two n (omega arith) ∙ rw (decimal_two (n / 100) (omega arith) (omega arith))

pub past_sixteen : (n : ℕ) → 100000000 ≤ n / 100000000
    → decimal_of n ≡ decimal_of (n / 100000000 / 100000000) ++ eight_of (n / 100000000 % 100000000) ++ eight_of (n % 100000000)
past_sixteen n h = past_eight n (omega arith) ∙ rw (past_eight (n / 100000000) h)
