-- The acceleration of a good car as the document's signed number: it lies in -60..30, and a second's change of v in -216..108. Its code a + 60
-- lies in 0..90.
-- Assumes nothing.
use Rattle.std.specs.Prelude.{◌≡◌, ◌+◌, ◌^◌, ◌≤◌, ◌<◌, pos, neg_ℤ, ◌+ℤ◌, ◌≤ℤ◌}
use Rattle.std.proofs.Common.{arith}
use Rattle.kit.specs.Bounds.{full_brake, full_gas, most_rise, most_fall}
use Rattle.motion.specs.Acceleration.{signed, acceleration_code}
use Rattle.motion.proofs.SignedLaws.{band, code_signed}
use Rattle.motion.specs.Speed.{change}
use Rattle.car.specs.declared.Car.{Car}
use Rattle.car.specs.Acceleration.{acceleration_of}
use Rattle.car.proofs.AccelerationLaws.{acceleration_small, acceleration_size, acceleration_code_lem, change_size}
use Rattle.car.specs.Standing.{Ranges}

pub acceleration_band : (c : Car) → Ranges c → (neg_ℤ (pos full_brake) ≤ℤ signed (acceleration_of c)) × (signed (acceleration_of c) ≤ℤ pos full_gas)
acceleration_band c r = band full_brake full_gas _ (acceleration_small c r)

pub change_band : (c : Car) → Ranges c → (neg_ℤ (pos most_fall) ≤ℤ signed (change (acceleration_of c))) × (signed (change (acceleration_of c)) ≤ℤ pos most_rise)
change_band c r = band most_fall most_rise _ (change_size c r)

-- a + 60 is no less than 0, so that the answer word holds all of it; it is at most 90, which fits the word's seven bits
pub code_band : (c : Car) → Ranges c
    → (pos (acceleration_code (acceleration_of c)) ≡ signed (acceleration_of c) +ℤ pos 60)
    × (acceleration_code (acceleration_of c) ≤ 60 + full_gas)
    × (60 + full_gas < 2 ^ 7)
code_band c r = (code_signed _ (acceleration_size c r), acceleration_code_lem c r, omega arith)
