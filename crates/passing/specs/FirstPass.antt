-- What the two answers about a mark say, in the words of document 02, §5, of every car, list of words and mark.
-- Positions in a list are said by splits: `ws ≡ us ++ w ∷ vs` says that w is event `length us + 1` of ws, and `driven c us` is the car that it meets.
-- Assumes nothing.
use Rattle.std.specs.Prelude.{true, false, ◌≡◌, ℕ, ◌+◌, ◌≤◌, ◌<◌, length, Some, None}
use mathlib.Core.List.{List, [], ◌∷◌, ◌++◌, Memᴰ}
use Rattle.car.specs.declared.Car.{Car}
use Rattle.car.specs.Drive.{step_of, accepted_tick}
use Rattle.car.specs.Lesson.{driven}
use Rattle.car.specs.Mark.{passes, searched, found}
use Rattle.passing.specs.Passing.{passed_of}

-- ---- "It says "never" exactly when no tick of the lesson does so"
abbrev pub NonePasses : ℕ → Car → List ℕ → Type 0
NonePasses mark c ws = (us : List ℕ) (w : ℕ) (vs : List ℕ) → ws ≡ us ++ w ∷ vs → passes mark (driven c us) w ≡ false

-- ---- n is "the number of the event at which v first went from below the mark to the mark or above"
pub record PassesAt (mark : ℕ) (c : Car) (ws : List ℕ) (n : ℕ) : Type 0 where
  pub before : List ℕ
  pub word : ℕ
  pub after : List ℕ
  pub split : ws ≡ before ++ word ∷ after
  -- "counting events from 1", all of them
  pub number : n ≡ length before + 1
  -- an accepted tick, v below the mark before it, and at the mark or above after it
  pub tick : accepted_tick (driven c before) word ≡ true
  pub below : (driven c before).speed < mark
  pub above : mark ≤ (step_of (driven c before) word).car.speed
  -- "first"
  pub first : NonePasses mark c before

-- ---- "The search stops at its first find": it drives the first words of ws, the find the last of them, or all where there is none
pub record Searched (mark : ℕ) (c : Car) (ws : List ℕ) : Type 0 where
  pub rest : List ℕ
  pub split : ws ≡ searched mark c ws ++ rest
  pub stopped : found mark c ws ≡ true → passed_of mark c ws ≡ Some (length (searched mark c ws))
  pub never : found mark c ws ≡ false → passed_of mark c ws ≡ None
  pub whole : found mark c ws ≡ false → searched mark c ws ≡ ws

-- ---- "the seconds of that lesson that ended at or above it": event k of ws is an accepted tick, and v is at the mark or above after it
pub record SecondAt (mark : ℕ) (c : Car) (ws : List ℕ) (k : ℕ) : Type 0 where
  pub before : List ℕ
  pub word : ℕ
  pub after : List ℕ
  pub split : ws ≡ before ++ word ∷ after
  pub number : k ≡ length before + 1
  pub tick : accepted_tick (driven c before) word ≡ true
  pub above : mark ≤ (step_of (driven c before) word).car.speed

-- numbers above k in rising order, so that none stands there twice
pub data Rising : ℕ → List ℕ → Type 0 where
  end : {k : ℕ} → Rising k []
  next : {k : ℕ} (n : ℕ) {ns : List ℕ} → k < n → Rising n ns → Rising k (n ∷ ns)

-- n is the number of such events: as many as the list of their numbers holds
pub record Counts (mark : ℕ) (c : Car) (ws : List ℕ) (n : ℕ) : Type 0 where
  pub numbers : List ℕ
  pub rising : Rising 0 numbers
  pub each : (k : ℕ) → Memᴰ k numbers → SecondAt mark c ws k
  pub all : (k : ℕ) → SecondAt mark c ws k → Memᴰ k numbers
  pub count : n ≡ length numbers
