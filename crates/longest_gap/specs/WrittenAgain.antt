-- An accepted record, read and written again: document 02, §12.
-- Assumes nothing.
use Rattle.std.specs.Prelude.{Bool, true, false, ◌≡◌, List, ℕ, eqb, get_or, set}
use Rattle.kit.specs.Answer.{gives}
use Rattle.car.specs.declared.Car.{Car}
use Rattle.record.specs.Layout.{headed, packed, unpacked}
use Rattle.record.specs.Record.{read_of, write_of}

-- "A record that holds 30"
unfoldable pub holds_30 : List ℕ → Bool
holds_30 ws = eqb (unpacked ws).gap 30

-- of an accepted record and the car that it gives
pub record WrittenAgain (ws : List ℕ) (c : Car) : Type 0 where
  -- "for such records alone the words differ after reading and writing"
  pub same : holds_30 ws ≡ false → write_of c ≡ record { refusal = 0; words = ws }
  -- "written again, it holds 25": exactly word 9 differs
  pub holds : holds_30 ws ≡ true → get_or ws 9 0 ≡ headed 9 30
  pub differs : holds_30 ws ≡ true → write_of c ≡ record { refusal = 0; words = set ws 9 (headed 9 25) }
  -- "gives a car with 25"
  pub gap : holds_30 ws ≡ true → c.gap ≡ 25
  -- what is written is read as the same car
  pub again : read_of (write_of c).words ≡ gives c

-- there are such records: those of the good cars with 25, with 30 in its place
pub record HeldRecord (c : Car) : Type 0 where
  pub read : read_of (set (packed c) 9 (headed 9 30)) ≡ gives c
  pub holds : holds_30 (set (packed c) 9 (headed 9 30)) ≡ true
