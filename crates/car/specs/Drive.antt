-- One event word driven: document 01, "From file, pupil, radar, clock and caller" and "Rules of each event".
-- Assumes nothing.
use Rattle.std.specs.Prelude.{Bool, true, false, ◌&&◌, Result, Ok, Err, ℕ, eqb}
use Rattle.kit.specs.Answer.{Answer, gives, refused}
use Rattle.kit.specs.Pick.{pick}
use Rattle.event.specs.declared.Input.{Input}
use Rattle.event.specs.declared.Input.TheVariants.{Key, UpDown, ForeBack, Brake, Gas, Button, Gap, Sign, Radar}
use Rattle.event.specs.declared.Event.{Event}
use Rattle.event.specs.declared.Event.TheVariants as event
use Rattle.event.specs.declared.refusal.Refusal.{Refusal}
use Rattle.event.specs.Refusal.{refusal_number}
use Rattle.event.specs.Words.{read_of}
use Rattle.car.specs.declared.Car.{Car}
use Rattle.car.specs.Checks.{event_check}
use Rattle.car.specs.Good.{good_of}
use Rattle.car.specs.Rules.{key_turned, up_down_moved, fore_back_moved, brake_pressed, gas_pressed, button_pressed, gap_chosen, sign_passed, reading_taken, ticked}

-- the car after a word, and the word's refusal or 0
pub record Driven : Type 0 where
  pub car : Car
  pub refusal : ℕ

-- what a result says of a car that was driven: a refused word leaves it as it was
abbrev pub drive_answer : Car → Result Car Refusal → Driven
drive_answer c (Ok next) = record { car = next; refusal = 0 }
drive_answer c (Err r) = record { car = c; refusal = refusal_number r }

-- the next car by an event's rule
unfoldable pub input_next : Car → Input → Car
input_next c (Key position ready) = key_turned c position ready
input_next c (UpDown x) = up_down_moved c x
input_next c (ForeBack y) = fore_back_moved c y
input_next c (Brake x) = brake_pressed c x
input_next c (Gas x) = gas_pressed c x
input_next c (Button limit) = button_pressed c limit
input_next c (Gap tenths) = gap_chosen c tenths
input_next c (Sign s) = sign_passed c s
input_next c (Radar range speed) = reading_taken c range speed

unfoldable pub event_next : Car → Event → Car
event_next c (event.Input i) = input_next c i
event_next c (event.Tick ready) = ticked c ready

-- "Checks run in rising number; the first that holds is the refusal, and with none the event is accepted": a word's checks are 1 to 16, with 24
-- "looked at where a value's range was, after 3"; 0 for none
unfoldable pub reading_check : Car → Answer Event → ℕ
reading_check c (refused n) = n
reading_check c (gives e) = event_check c e

unfoldable pub check_of : Car → ℕ → ℕ
check_of c w = reading_check c (read_of w)

-- the next car by the rule of a word's event
unfoldable pub reading_next : Car → Answer Event → Car
reading_next c (refused n) = c
reading_next c (gives e) = event_next c e

unfoldable pub next_of : Car → ℕ → Car
next_of c w = reading_next c (read_of w)

-- "A refused event changes no field"
unfoldable pub chosen : Car → ℕ → Car → Driven
chosen c refusal next = pick (eqb refusal 0) (record { car = next; refusal = 0 }) (record { car = c; refusal = refusal })

-- a word driven by its checks and the rules alone
unfoldable pub step_of : Car → ℕ → Driven
step_of c w = chosen c (check_of c w) (next_of c w)

-- 18, "a car handed in that no accepted record gives", "looked at before all others"
unfoldable pub drive_of : Car → ℕ → Driven
drive_of c w = pick (good_of c) (step_of c w) (record { car = c; refusal = 18 })

-- ---- a word is accepted; it is accepted and its event is of a sort, as a tick
abbrev pub accepted : Car → ℕ → Bool
accepted c w = eqb (check_of c w) 0

unfoldable pub reads : (Event → Bool) → Answer Event → Bool
reads f (gives e) = f e
reads f (refused n) = false

abbrev pub accepted_as : (Event → Bool) → Car → ℕ → Bool
accepted_as f c w = accepted c w && reads f (read_of w)

unfoldable pub is_tick : Event → Bool
is_tick (event.Input i) = false
is_tick (event.Tick ready) = true

abbrev pub accepted_tick : Car → ℕ → Bool
accepted_tick c w = accepted_as is_tick c w
