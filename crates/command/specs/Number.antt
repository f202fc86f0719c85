-- A number that was typed as an argument: decimal digits alone, zeros in front allowed, at most 2^32 - 1.
-- Assumes nothing.
use Rattle.std.specs.Prelude.{Bool, true, ◌&&◌, not, List, [], ◌∷◌, ℕ, ◌+◌, ◌-◌, ◌*◌, eqb, leb, length, Option, Some, None}
use Rattle.kit.specs.Pick.{pick}

-- "0" to "9"
unfoldable pub is_digit : ℕ → Bool
is_digit b = leb 48 b && leb b 57

unfoldable pub all_digits : List ℕ → Bool
all_digits [] = true
all_digits (b ∷ bs) = is_digit b && all_digits bs

-- the value of some digits, the highest first, behind a number
unfoldable pub value_from : ℕ → List ℕ → ℕ
value_from n [] = n
value_from n (b ∷ bs) = value_from (10 * n + (b - 48)) bs

unfoldable pub is_number : List ℕ → Bool
is_number text = not (eqb (length text) 0) && all_digits text && leb (value_from 0 text) 4294967295

unfoldable pub number_in : List ℕ → Option ℕ
number_in text = pick (is_number text) (Some (value_from 0 text)) None
