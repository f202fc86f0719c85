-- How the code goes: with no event a good car is kept, with the refusal or the fault, and any other is 18.
-- Assumes nothing.
use Rattle.std.specs.Prelude.{Bool, false, ℕ}
use Rattle.kit.specs.Pick.{pick}
use Rattle.car.specs.declared.Car.{Car}
use Rattle.car.specs.Good.{good_of}
use Rattle.scene.specs.See.{Saw}

unfoldable pub kept_of : Car → ℕ → Bool → Saw
kept_of c n fault = pick (good_of c) (record { car = c; refusal = n; fault = fault }) (record { car = c; refusal = 18; fault = false })
