-- What towing asks of every car: document 02, §11. "With it the ceiling 2000 on D and B is 1000, .. and E is 0."
-- Assumes nothing.
use Rattle.std.specs.Prelude.{◌≡◌, List, ◌++◌, ℕ, ◌≤◌}
use Rattle.car.specs.declared.Car.{Car}
use Rattle.car.specs.Lesson.{driven}
use Rattle.trainer.specs.Calls.{Call, ends, words}

pub record Towed (c : Car) : Type 0 where
  pub desired : c.cruise.desired ≤ 1000
  pub base : c.levers.base ≤ 1000
  pub manual : c.cruise.manual ≡ 0

-- after each word of a list of demand 3's calls, and at its end
pub record TowedAlways (c : Car) (ks : List Call) : Type 0 where
  pub each : (us vs : List ℕ) → words c ks ≡ us ++ vs → Towed (driven c us)
  pub last : Towed (ends c ks)
