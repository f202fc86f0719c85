-- Full pedal, full force (document 02, §3) cannot be seen with both pedals up: a is then the one of the terms before, b×10÷375 and g×10÷375.
-- Assumes nothing.
use Rattle.std.specs.Prelude.{not, ◌≡◌, ℕ, ◌*◌, ◌/◌, min, eqb, ltb}
use Rattle.kit.specs.Pick.{pick}
use Rattle.motion.specs.declared.Acceleration.{Acceleration}
use Rattle.motion.specs.Acceleration.{speeding, slowing, gas_term, pulled, backed_off, towards, pushed, urged, cruising}
use Rattle.car.specs.declared.Car.{Car}
use Rattle.car.specs.Acceleration.{target_of, acceleration_of}
use Rattle.car.specs.Distance.{close}

-- ---- the rule before: both terms, and the acceleration with them
unfoldable pub term_before : ℕ → ℕ
term_before pedal = pedal * 10 / 375

unfoldable pub braked_before : ℕ → ℕ → Acceleration
braked_before b v = pick (eqb v 0) (speeding 0) (slowing (term_before b))

unfoldable pub pulled_before : ℕ → Acceleration
pulled_before g = speeding (min 30 (term_before g))

unfoldable pub cruising_before : ℕ → ℕ → ℕ → Acceleration
cruising_before g v x = pick (eqb g 0) (towards v x) (pushed (term_before g) (towards v x))

unfoldable pub acceleration_before : Car → Acceleration
acceleration_before c =
    pick (not (eqb c.key 2)) (speeding 0)
    (pick (ltb 0 c.pedals.brake) (braked_before c.pedals.brake c.speed)
    (pick (not c.cruise.on) (pulled_before c.pedals.gas)
    (pick (close c) (backed_off c.speed)
    (cruising_before c.pedals.gas c.speed (target_of c)))))

-- ---- of every car, good or not
pub pedals_up : (c : Car) → c.pedals.brake ≡ 0 → c.pedals.gas ≡ 0 → acceleration_of c ≡ acceleration_before c
unfolding acceleration_of acceleration_before braked_before pulled pulled_before cruising cruising_before urged gas_term term_before pick
pedals_up c b g = rw (b, g)
