-- Lists of event words: which are accepted, which of them are ticks or words of the up-down lever, and what (f) remembers.
-- Assumes nothing.
use Rattle.std.specs.Prelude.{Bool, List, [], ◌∷◌, ℕ, ◌+◌}
use Rattle.kit.specs.Pick.{pick}
use Rattle.car.specs.declared.Car.{Car}
use Rattle.car.specs.Drive.{step_of, accepted, accepted_as, accepted_tick}
use Rattle.history.specs.Neighbours.{is_lever}

-- an accepted word of the up-down lever
abbrev pub accepted_lever : Car → ℕ → Bool
accepted_lever c w = accepted_as is_lever c w

-- the accepted words of a list, how many of them are ticks, and how many move the up-down lever
unfoldable pub accepted_words : Car → List ℕ → List ℕ
accepted_words c [] = []
accepted_words c (w ∷ ws) =
    pick (accepted c w) (w ∷ accepted_words (step_of c w).car ws) (accepted_words (step_of c w).car ws)

unfoldable pub ticks_of : Car → List ℕ → ℕ
ticks_of c [] = 0
ticks_of c (w ∷ ws) = pick (accepted_tick c w) 1 0 + ticks_of (step_of c w).car ws

unfoldable pub levers_of : Car → List ℕ → ℕ
levers_of c [] = 0
levers_of c (w ∷ ws) = pick (accepted_lever c w) 1 0 + levers_of (step_of c w).car ws

-- ---- (f)'s history: since the accepted word that last moved the up-down lever, the ticks accepted, and the D that it left
pub record Since : Type 0 where
  pub ticks : ℕ
  pub left : ℕ

abbrev pub never : Since
never = record { ticks = 0; left = 0 }

unfoldable pub since_word : Car → Since → ℕ → Since
since_word c s w =
    pick (accepted_lever c w) (record { ticks = 0; left = (step_of c w).car.cruise.desired })
    (pick (accepted_tick c w) (record { ticks = s.ticks + 1; left = s.left })
    s)

unfoldable pub since : Car → Since → List ℕ → Since
since c s [] = s
since c s (w ∷ ws) = since (step_of c w).car (since_word c s w) ws
