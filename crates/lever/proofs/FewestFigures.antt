-- Lists worked out by hand, from neutral and a D under a ceiling of 2000: what the search finds is the answer to a car that stands so (FewestLaws.antt).
-- Assumes nothing.
use Rattle.std.specs.Prelude.{Some, None, [], ◌∷◌, ◌≡◌, refl, ℕ}
use Rattle.kit.specs.Pick.{pick}
use Rattle.desired.specs.Desired.{up5, up7, down5, down7, hundred_below, stepped}
use Rattle.checks.specs.Checks.{up_down_skips, up_down_check}
use Rattle.lever.specs.FewestShape.{Found, lever_word, moved_to, try_from, seek_of, shortest_of}

abbrev from : ℕ → ℕ → ℕ → Found
from top d wanted = shortest_of (record { ceiling = top; wanted = wanted }) d 7 0

abbrev neutral : ℕ
neutral = lever_word 0

abbrev up_5 : ℕ
up_5 = lever_word 1

abbrev up_7 : ℕ
up_7 = lever_word 2

abbrev down_5 : ℕ
down_5 = lever_word 3

abbrev down_7 : ℕ
down_7 = lever_word 4

pub lists_by_hand :
    (from 2000 570 570 ≡ Some [])
    × (from 2000 570 500 ≡ Some (down_7 ∷ neutral ∷ []))
    -- up5 may follow up7 without neutral
    × (from 2000 570 610 ≡ Some (up_7 ∷ up_5 ∷ neutral ∷ []))
    × (from 2000 570 540 ≡ Some (down_5 ∷ neutral ∷ down_5 ∷ neutral ∷ down_5 ∷ neutral ∷ []))
    -- at the ceiling up5 and up7 give the same, and up5 comes first
    × (from 1000 990 1000 ≡ Some (up_5 ∷ neutral ∷ []))
    × (from 2000 570 575 ≡ None)
    × (from 2000 570 640 ≡ None)
    × (from 1000 990 1010 ≡ None)
unfolding shortest_of seek_of try_from moved_to stepped up5 up7 down5 down7 hundred_below up_down_check up_down_skips pick
lists_by_hand = (refl, refl, refl, refl, refl, refl, refl, refl)
