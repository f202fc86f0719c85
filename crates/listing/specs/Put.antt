-- What the functions of this crate that put a text at an index ensure.
-- Assumes nothing.
use Rattle.std.specs.Prelude.{◌≡◌, List, [], ◌∷◌, ◌++◌, ℕ, ◌+◌, ◌≤◌, ◌/◌, ◌%◌, length}
use Rattle.kit.specs.Placed.{placed}
use Rattle.listing.specs.Listing.{digit}

-- the text, of at most so many bytes, at the index, with the slice afterwards and the index past it
pub record Put (out : List ℕ) (at : ℕ) (text : List ℕ) (most : ℕ) (after : List ℕ) (past : ℕ) : Type 0 where
  pub index : past ≡ at + length text
  pub slice : after ≡ placed out at text
  pub short : length text ≤ most

-- two, four and eight digits, zeros in front
unfoldable pub two_of : ℕ → List ℕ
two_of n = digit (n / 10) ∷ digit (n % 10) ∷ []

unfoldable pub four_of : ℕ → List ℕ
four_of n = two_of (n / 100) ++ two_of (n % 100)

unfoldable pub eight_of : ℕ → List ℕ
eight_of n = four_of (n / 10000) ++ four_of (n % 10000)
