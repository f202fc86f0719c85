-- What neighbouring cars show, those before and after one word: document 01, "Standing rules": (b) "between neighbouring cars neither
-- passes neutral unseen", (g) a tick moves v "up by at most 108, down by at most 216" (document 02, §3).
-- Assumes nothing.
use Rattle.std.specs.Prelude.{Bool, true, false, ◌≡◌, ◌+◌, ◌≤◌}
use Rattle.kit.specs.Bounds.{most_rise, most_fall}
use Rattle.event.specs.declared.Input.{Input}
use Rattle.event.specs.declared.Input.TheVariants.{Key, UpDown, ForeBack, Brake, Gas, Button, Gap, Sign, Radar}
use Rattle.event.specs.declared.Event.{Event}
use Rattle.event.specs.declared.Event.TheVariants as event
use Rattle.car.specs.declared.Car.{Car}
use Rattle.car.specs.Drive.{is_tick}
use Rattle.car.specs.Good.{lever_held}

-- an event of the up-down lever
unfoldable pub input_lever : Input → Bool
input_lever (Key position ready) = false
input_lever (UpDown x) = true
input_lever (ForeBack y) = false
input_lever (Brake x) = false
input_lever (Gas x) = false
input_lever (Button limit) = false
input_lever (Gap tenths) = false
input_lever (Sign s) = false
input_lever (Radar range speed) = false

unfoldable pub is_lever : Event → Bool
is_lever (event.Input i) = input_lever i
is_lever (event.Tick ready) = false

-- c is the car before a word, d the one after it; `tick` says whether it was an accepted tick
pub record Neighbouring (tick : Bool) (c d : Car) : Type 0 where
  -- (b) L: from up to down, or back
  pub up_down : 1 ≤ c.levers.updown → c.levers.updown ≤ 2 → 3 ≤ d.levers.updown → ⊥
  pub down_up : 3 ≤ c.levers.updown → 1 ≤ d.levers.updown → d.levers.updown ≤ 2 → ⊥
  -- (b) M: between forward and backward
  pub forward_backward : c.levers.foreback ≡ 1 → d.levers.foreback ≡ 2 → ⊥
  pub backward_forward : c.levers.foreback ≡ 2 → d.levers.foreback ≡ 1 → ⊥
  -- (g) a tick moves v "up by at most 108, down by at most 216", and no other word moves it
  pub speed_tick : tick ≡ true → (d.speed ≤ c.speed + most_rise) × (c.speed ≤ d.speed + most_fall)
  pub speed_other : tick ≡ false → d.speed ≡ c.speed

-- the same of an accepted event, with the clock and one step of (f)'s history
pub record Neighbours (c : Car) (e : Event) (d : Car) : Type 0 where
  pub neighbouring : Neighbouring (is_tick e) c d
  pub clock_tick : is_tick e ≡ true → d.now ≡ c.now + 1
  pub clock_other : is_tick e ≡ false → d.now ≡ c.now
  -- (f) a lever's word that leaves L out with cruise on: T is its time, B the D it left
  pub lever_out : is_lever e ≡ true → lever_held d ≡ true → (d.levers.time ≡ d.now) × (d.levers.base ≡ d.cruise.desired)
  -- (f) after any other event L is out with cruise on only as before, with the same T and B
  pub lever_kept : is_lever e ≡ false → lever_held d ≡ true → (lever_held c ≡ true) × (d.levers ≡ c.levers)
