-- What is promised of cruise: document 02, §10. "Instructors tell pupils that cruise reaches its speed within about a minute."
-- Assumes nothing.
use Rattle.std.specs.Prelude.{true, false, ◌≡◌, ◌⊎◌, List, [], ◌∷◌, ℕ, ◌≤◌, length, take, ⊤}
use Rattle.car.specs.declared.Car.{Car}
use Rattle.car.specs.Drive.{step_of, accepted_tick}
use Rattle.car.specs.Good.{good_of}
use Rattle.car.specs.Lesson.{driven}

-- "mode 1 or R 0 or 255"
abbrev pub Unhindered : Car → Type 0
Unhindered c = (c.settings.mode ≡ 1) ⊎ ((c.radar.range ≡ 0) ⊎ (c.radar.range ≡ 255))

-- "a car with key on, cruise on, gas 0, both levers neutral, limiter off, and mode 1 or R 0 or 255"
pub record LeftAlone (c : Car) : Type 0 where
  pub key : c.key ≡ 2
  pub cruise : c.cruise.on ≡ true
  pub gas : c.pedals.gas ≡ 0
  pub updown : c.levers.updown ≡ 0
  pub foreback : c.levers.foreback ≡ 0
  pub limiter : c.limiter.on ≡ false
  pub unhindered : Unhindered c

-- "every list of accepted ticks": each word is a tick, and accepted in its turn
unfoldable pub AcceptedTicks : Car → List ℕ → Type 0
AcceptedTicks c [] = ⊤
AcceptedTicks c (w ∷ ws) = (accepted_tick c w ≡ true) × AcceptedTicks (step_of c w).car ws

-- the car behind the first n words of a list
abbrev pub after : Car → List ℕ → ℕ → Car
after c ws n = driven c (take n ws)

-- "v = D"
abbrev pub AtDesired : Car → Type 0
AtDesired c = c.speed ≡ c.cruise.desired

-- "some tick among the next 64 accepted ones ends with v = D. After each later tick of that list v = D still holds", with `most` for 64
pub record Settles (most : ℕ) (c : Car) (ws : List ℕ) : Type 0 where
  pub tick : ℕ
  pub first : 1 ≤ tick
  pub soon : tick ≤ most
  pub reached : AtDesired (after c ws tick)
  pub later : (n : ℕ) → tick ≤ n → n ≤ length ws → AtDesired (after c ws n)

-- "For every such car whose clock is at most 86,336, and every list of accepted ticks that is at least 64 long"
abbrev pub Promise : Type 0
Promise =
    (c : Car) (ws : List ℕ) → good_of c ≡ true → LeftAlone c → c.now ≤ 86336 → AcceptedTicks c ws → 64 ≤ length ws
    → Settles 64 c ws
