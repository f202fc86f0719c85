-- What a call of the library leaves of a record from a store, whatever gap it holds: document 02, §12, "A record that holds 30 is still accepted and
-- gives a car with 25; written again, it holds 25".
-- Assumes nothing.
use Rattle.std.specs.Prelude.{false, List, ◌≡◌, ◌⊎◌, ℕ, Float, Some}
use Rattle.kit.specs.Answer.{gives}
use Rattle.car.specs.declared.Car.{Car}
use Rattle.car.specs.Drive.{step_of}
use Rattle.car.specs.Lesson.{driven}
use Rattle.record.specs.Layout.{packed}
use Rattle.longest_gap.specs.WrittenAgain.{holds_30}
use Rattle.cruise.specs.Cruise.{sighting_of, handed_word}
use Rattle.callers.specs.Callers.{LibraryCall, cruise_drive, cruise_lesson, cruise_see, cruise_test, plain, left}

-- of an accepted record and the car that it gives
pub record StoredRecord (ws : List ℕ) (c : Car) : Type 0 where
  -- a refused call and a refused word leave it bit for bit
  pub refused : (k : LibraryCall) → ((left ws k).refusal ≡ 0 → ⊥) → (left ws k).words ≡ ws
  -- so do a fault of the scene engine and a test
  pub fault : (metres kmh : Float) → left ws (cruise_see 2 metres kmh) ≡ plain (record { refusal = 0; words = ws })
  pub test : left ws cruise_test ≡ plain (record { refusal = 0; words = ws })
  -- an accepted word, and a sighting's, and a lesson that ran, whatever its words did, write the car
  pub word : (w : ℕ) → (left ws (cruise_drive w)).refusal ≡ 0 → (left ws (cruise_drive w)).words ≡ packed (step_of c w).car
  pub sighting : (kind : ℕ) (metres kmh : Float) (w : ℕ) → handed_word (sighting_of kind metres kmh) ≡ gives (Some w)
      → left ws (cruise_see kind metres kmh) ≡ left ws (cruise_drive w)
  pub lesson : (events answers : List ℕ) → (left ws (cruise_lesson events answers)).refusal ≡ 0
      → (left ws (cruise_lesson events answers)).words ≡ packed (driven c events)
  -- so a call leaves it bit for bit, or 30 no more
  pub no_more : (k : LibraryCall) → ((left ws k).words ≡ ws) ⊎ (holds_30 (left ws k).words ≡ false)
