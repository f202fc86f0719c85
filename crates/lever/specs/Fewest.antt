-- Fewest moves of the lever: document 02, §13. Which lists reach a wanted D, which of them is the answer, and what is turned away.
-- Assumes nothing.
use Rattle.std.specs.Prelude.{Bool, true, false, ◌&&◌, Result, Ok, Err, ◌⊎◌, ⊤, ◌≡◌, ℕ, ◌≤◌, ◌<◌, eqb, length, drop}
use mathlib.Core.List.{List, [], ◌∷◌, ◌++◌}
use Rattle.event.specs.declared.refusal.Refusal.{Refusal}
use Rattle.event.specs.Refusal.{refusal_number}
use Rattle.event.specs.Words.{kind_of}
use Rattle.car.specs.declared.Car.{Car}
use Rattle.car.specs.Drive.{check_of, step_of}
use Rattle.car.specs.Good.{good_of}
use Rattle.lever.specs.declared.Moves as lever

-- "up-down lever words, .. all accepted, ending in neutral with that D": each word in its turn, on the car that those before it leave
unfoldable pub Reaches : Car → ℕ → List ℕ → Type 0
Reaches c wanted [] = (c.levers.updown ≡ 0) × (c.cruise.desired ≡ wanted)
Reaches c wanted (w ∷ ws) = (kind_of w ≡ 2) × (check_of c w ≡ 0) × Reaches (step_of c w).car wanted ws

-- "at most six"
abbrev pub Candidate : Car → ℕ → List ℕ → Type 0
Candidate c wanted ws = (length ws ≤ 6) × Reaches c wanted ws

-- the words of the one come first, or the two lists are one: "compared as numbers from the first word on"
unfoldable pub NotAfter : List ℕ → List ℕ → Type 0
NotAfter [] vs = ⊤
NotAfter (w ∷ ws) [] = ⊥
NotAfter (w ∷ ws) (v ∷ vs) = (w < v) ⊎ ((w ≡ v) × NotAfter ws vs)

-- "No other such list has fewer; among equals the one whose words come first"
pub record Fewest (c : Car) (wanted : ℕ) (ws : List ℕ) : Type 0 where
  pub candidate : Candidate c wanted ws
  pub fewest : (vs : List ℕ) → Candidate c wanted vs → length ws ≤ length vs
  pub first : (vs : List ℕ) → Candidate c wanted vs → length vs ≡ length ws → NotAfter ws vs

-- ---- the result
pub record Moves : Type 0 where
  pub refusal : ℕ
  pub count : ℕ
  pub words : List ℕ

abbrev pub zeros : List ℕ
zeros = 0 ∷ 0 ∷ 0 ∷ 0 ∷ 0 ∷ 0 ∷ []

-- "six words, 0 past the list"
unfoldable pub padded : List ℕ → List ℕ
padded ws = ws ++ drop (length ws) zeros

-- "and the list's count"
unfoldable pub listed : List ℕ → Moves
listed ws = record { refusal = 0; count = length ws; words = padded ws }

-- "a refusal gives count 0 and six zeros"
unfoldable pub turned_away : ℕ → Moves
turned_away n = record { refusal = n; count = 0; words = zeros }

-- what a result says of that
abbrev pub moves_answer : Result lever.Moves Refusal → Moves
moves_answer (Ok m) = record { refusal = 0; count = m.count; words = m.words }
moves_answer (Err r) = turned_away (refusal_number r)

-- ---- "25 cruise off or a lever out of neutral"
unfoldable pub ready_to_move : Car → Bool
ready_to_move c = c.cruise.on && eqb c.levers.updown 0 && eqb c.levers.foreback 0

-- m is the answer to a car and a wanted D. 18 is looked at before all others; of the two "25 is looked at first"; "26 no list of at most six words does it,
-- given in no other case"
pub data Answers (c : Car) (wanted : ℕ) (m : Moves) : Type 0 where
  not_good : good_of c ≡ false → m ≡ turned_away 18 → Answers c wanted m
  not_ready : good_of c ≡ true → ready_to_move c ≡ false → m ≡ turned_away 25 → Answers c wanted m
  no_list : good_of c ≡ true → ready_to_move c ≡ true → ((ws : List ℕ) → Candidate c wanted ws → ⊥) → m ≡ turned_away 26 → Answers c wanted m
  list : good_of c ≡ true → ready_to_move c ≡ true → (ws : List ℕ) → Fewest c wanted ws → m ≡ listed ws → Answers c wanted m
