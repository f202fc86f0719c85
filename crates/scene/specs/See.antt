-- A sighting driven on a car: document 02, §7.
-- Assumes nothing.
use Rattle.std.specs.Prelude.{Bool, true, false, Result, Ok, Err, Some, None, ℕ, Option}
use Rattle.kit.specs.Answer.{Answer, gives, refused}
use Rattle.kit.specs.Pick.{pick}
use Rattle.event.specs.declared.refusal.Refusal.{Refusal}
use Rattle.event.specs.Refusal.{refusal_number}
use Rattle.car.specs.declared.Car.{Car}
use Rattle.car.specs.Drive.{Driven, step_of}
use Rattle.car.specs.Good.{good_of}
use Rattle.sighting.specs.declared.Sighting.{Sighting}
use Rattle.sighting.specs.Sighting.{seen_word}

-- the car after a sighting, the refusal or 0, and whether the engine had a fault: then there was no event, and the car is as it was
pub record Saw : Type 0 where
  pub car : Car
  pub refusal : ℕ
  pub fault : Bool

-- what a result says: the next car, none for a fault; refused, the car is kept
abbrev pub see_answer : Car → Result (Option Car) Refusal → Saw
see_answer c (Ok (Some d)) = record { car = d; refusal = 0; fault = false }
see_answer c (Ok None) = record { car = c; refusal = 0; fault = true }
see_answer c (Err r) = record { car = c; refusal = refusal_number r; fault = false }

-- what driving a word gave
abbrev pub told_of : Driven → Saw
told_of d = record { car = d.car; refusal = d.refusal; fault = false }

-- "A fault gives no event and says so"; a refusal leaves the car as it was
unfoldable pub sighted_of : Car → Answer (Option ℕ) → Saw
sighted_of c (gives (Some w)) = told_of (step_of c w)
sighted_of c (gives None) = record { car = c; refusal = 0; fault = true }
sighted_of c (refused n) = record { car = c; refusal = n; fault = false }

-- 18, "a car handed in that no accepted record gives", before all others; "22 is looked at first, before any check of the event"
unfoldable pub see_of : Car → Sighting → Saw
see_of c s = pick (good_of c) (sighted_of c (seen_word s)) (record { car = c; refusal = 18; fault = false })
