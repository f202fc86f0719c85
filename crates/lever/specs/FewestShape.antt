-- How the code looks for the list: over where the lever stands and D alone, lists of one length after those of the length before, and the positions of a
-- next word in the order of their numbers.
-- Assumes nothing.
use Rattle.std.specs.Prelude.{◌&&◌, Option, Some, None, ℕ, zero, suc, ◌+◌, ◌-◌, ◌*◌, eqb, length}
use Rattle.std.specs.Option.{option_or, option_map}
use mathlib.Core.List.{List, [], ◌∷◌}
use Rattle.kit.specs.Pick.{pick}
use Rattle.desired.specs.Desired.{stepped}
use Rattle.checks.specs.Checks.{up_down_check}
use Rattle.car.specs.declared.Car.{Car}
use Rattle.car.specs.Car.{ceiling_of}
use Rattle.car.specs.Good.{good_of}
use Rattle.lever.specs.declared.Goal.{Goal}
use Rattle.lever.specs.declared.Moves as lever
use Rattle.lever.specs.Fewest.{Moves, padded, listed, turned_away, ready_to_move}

-- the word that moves the lever to position x
abbrev pub lever_word : ℕ → ℕ
lever_word x = 2 * 268435456 + x

-- D after a move to position x with cruise on
unfoldable pub moved_to : ℕ → ℕ → ℕ → ℕ
moved_to top x d = pick (eqb x 0) d (stepped top x d)

-- a list, if there is one
abbrev pub Found : Type 0
Found = Option (List ℕ)

-- ---- the first list of k words, from the lever at l and D at d
-- its first word is one of the last n of the five, and `next` gives what follows each of them
unfoldable pub try_from : ℕ → (ℕ → ℕ → Found) → ℕ → ℕ → ℕ → Found
try_from top next zero l d = None
try_from top next (suc n) l d =
    option_or
    (pick (eqb (up_down_check l 0 (4 - n)) 0)
    (option_map (λ ws. lever_word (4 - n) ∷ ws) (next (4 - n) (moved_to top (4 - n) d)))
    None)
    (try_from top next n l d)

unfoldable pub seek_of : Goal → ℕ → ℕ → ℕ → Found
seek_of g zero l d = pick (eqb l 0 && eqb d g.wanted) (Some []) None
seek_of g (suc k) l d = try_from g.ceiling (seek_of g k) 5 l d

-- ---- the shortest from neutral and d, of n lengths from k on
unfoldable pub shortest_of : Goal → ℕ → ℕ → ℕ → Found
shortest_of g d zero k = None
shortest_of g d (suc n) k = option_or (seek_of g k 0 d) (shortest_of g d n (suc k))

-- as the code holds it
unfoldable pub held : List ℕ → lever.Moves
held ws = record { words = padded ws; count = length ws }

-- ---- the answer
unfoldable pub list_answer : Found → Moves
list_answer (Some ws) = listed ws
list_answer None = turned_away 26

unfoldable pub fewest_of : Car → ℕ → Moves
fewest_of c wanted =
    pick (good_of c)
    (pick (ready_to_move c)
    (list_answer (shortest_of (record { ceiling = ceiling_of c.settings; wanted = wanted }) c.cruise.desired 7 0))
    (turned_away 25))
    (turned_away 18)
