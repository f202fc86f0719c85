-- The record call: document 01, "A lesson": "A record call writes the car's record into a buffer of any length and, unless 20 refuses
-- that, reads the same twelve words back and goes on with the car read."
-- Assumes nothing.
use Rattle.std.specs.Prelude.{Result, Ok, Err, List, ℕ, eqb, take}
use Rattle.kit.specs.Answer.{Answer, gives, refused}
use Rattle.kit.specs.Pick.{pick}
use Rattle.event.specs.declared.refusal.Refusal.{Refusal}
use Rattle.event.specs.Refusal.{refusal_number}
use Rattle.car.specs.declared.Car.{Car}
use Rattle.record.specs.Record.{read_of, saved_refusal, saved_buffer}

-- the car after a record call, and its refusal, 0, 18 or 20
pub record Kept : Type 0 where
  pub car : Car
  pub refusal : ℕ

-- what a result says: refused, the car is kept
abbrev pub keep_answer : Car → Result Car Refusal → Kept
keep_answer c (Ok d) = record { car = d; refusal = 0 }
keep_answer c (Err r) = record { car = c; refusal = refusal_number r }

unfoldable pub read_back : Car → Answer Car → Kept
read_back c (gives d) = record { car = d; refusal = 0 }
read_back c (refused n) = record { car = c; refusal = n }

unfoldable pub kept_of : Car → List ℕ → Kept
kept_of c buffer =
    pick (eqb (saved_refusal c buffer) 0)
    (read_back c (read_of (take 12 (saved_buffer c buffer))))
    (record { car = c; refusal = saved_refusal c buffer })
