-- The acceleration of a car lies in its band, up and down apart; the sign is the signed number's own.
-- Assumes nothing.
use Rattle.std.specs.Prelude.{true, ◌≡◌, ◌+◌, ◌≤◌}
use Rattle.std.proofs.Common.{arith}
use Rattle.kit.specs.Bounds.{speed_ceiling, full_brake, full_gas, most_rise, most_fall}
use Rattle.kit.specs.Pick.{pick_case, pick_le}
use Rattle.motion.specs.declared.Acceleration.{Acceleration}
use Rattle.motion.specs.Acceleration.{target, acceleration_code}
use Rattle.motion.proofs.AccelerationLaws.{Banded, Signed, banded_le, speeding_small, braked_small, pulled_small, backed_off_small, cruising_small, change_small, speeding_signed, braked_signed, pulled_signed, backed_off_signed, cruising_signed}
use Rattle.motion.proofs.SignedLaws.{code_le}
use Rattle.motion.specs.Speed.{change}
use Rattle.car.specs.declared.Car.{Car}
use Rattle.car.specs.Acceleration.{target_of, acceleration_of}
use Rattle.car.proofs.GoodLaws.{ceiling_le}
use Rattle.car.specs.Standing.{Ranges}

pub target_le : (c : Car) → Ranges c → target_of c ≤ speed_ceiling
unfolding target_of target
target_le c r = let h = ceiling_le c.settings in pick_le _ _ _ _ (omega arith) (omega arith)

abbrev Small : Acceleration → Type 0
Small a = Banded full_brake full_gas a

pub acceleration_small : (c : Car) → Ranges c → Banded full_brake full_gas (acceleration_of c)
unfolding acceleration_of
acceleration_small c r =
    pick_case Small _ _ _ (λ _. speeding_small 0 (omega arith))
    (λ _. pick_case Small _ _ _ (λ _. braked_small _ _ r.brake)
    (λ _. pick_case Small _ _ _ (λ _. pulled_small _)
    (λ _. pick_case Small _ _ _ (λ _. pulled_small _)
    (λ _. pick_case Small _ _ _ (λ _. backed_off_small _)
    (λ _. cruising_small _ _ _)))))

-- so that a + 60 is not below 0, nor above 90
pub acceleration_size : (c : Car) → Ranges c → (acceleration_of c).size ≤ 60
acceleration_size c r = banded_le full_brake full_gas 60 _ (acceleration_small c r) (omega arith) (omega arith)

pub acceleration_code_lem : (c : Car) → Ranges c → acceleration_code (acceleration_of c) ≤ 60 + full_gas
acceleration_code_lem c r = code_le _ (acceleration_small c r)

-- a second's change
pub change_size : (c : Car) → Ranges c → Banded most_fall most_rise (change (acceleration_of c))
change_size c r = change_small _ (acceleration_small c r)

pub acceleration_signed : (c : Car) → (acceleration_of c).slows ≡ true → 1 ≤ (acceleration_of c).size
unfolding acceleration_of
acceleration_signed c =
    pick_case Signed _ _ _ (λ _. speeding_signed 0)
    (λ _. pick_case Signed _ _ _ (λ _. braked_signed _ _)
    (λ _. pick_case Signed _ _ _ (λ _. pulled_signed _)
    (λ _. pick_case Signed _ _ _ (λ _. pulled_signed _)
    (λ _. pick_case Signed _ _ _ (λ _. backed_off_signed _)
    (λ _. cruising_signed _ _ _)))))
