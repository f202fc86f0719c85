-- The products of the distance sums: document 02, §6, "The largest product in N and in both warnings is 30×5000".
-- Assumes nothing.
use Rattle.std.specs.Prelude.{true, false, List, ◌∷◌, ◌≡◌, refl, ℕ, ◌+◌, ◌*◌, ◌≤◌, replicate}
use Rattle.std.proofs.Common.{mul-le-mul, arith}
use Rattle.kit.specs.Bounds.{speed_ceiling}
use Rattle.kit.specs.Pick.{pick}
use Rattle.event.specs.declared.Event.TheVariants.{Input, Tick}
use Rattle.event.specs.declared.Input.TheVariants.{Key, Gas, Radar}
use Rattle.event.specs.Words.{input_kind, input_range, judged, key_word, radar_word, key_on_of, inputs_of, input_of, tick_word, input_event, read_of, bit_of, input_word, word_of}
use Rattle.event.proofs.WordLaws.{gap_le}
use Rattle.checks.specs.Checks.{key_on, key_skips, key_check, pedal_check, radar_check, tick_check}
use Rattle.motion.specs.Acceleration.{speeding, gas_term, pulled}
use Rattle.motion.specs.Speed.{change, moved, at_most}
use Rattle.car.specs.declared.Car.{Car}
use Rattle.car.specs.Acceleration.{acceleration_of}
use Rattle.car.specs.Car.{fresh_car, settings_of, with_pedals, with_limiter, with_radar}
use Rattle.car.specs.Checks.{own_check, input_check, event_check}
use Rattle.car.specs.Distance.{metres, secure_distance}
use Rattle.car.specs.DistanceShape.{largest_product}
use Rattle.car.specs.Drive.{input_next, event_next, reading_check, check_of, reading_next, next_of, chosen, step_of}
use Rattle.car.specs.Lesson.{driven}
use Rattle.car.specs.Rules.{key_radar, key_turned, gas_pressed, reading_taken, test_due, radar_after, tick_desired, holds_desired, tick_speed, ticked}
use Rattle.car.specs.Standing.{Ranges}

-- no product is larger: no time is above 30 tenths of a second
pub product_le : {tenths v : ℕ} → tenths ≤ 30 → v ≤ speed_ceiling → tenths * v ≤ largest_product
product_le h g = mul-le-mul h g

-- each product of N, then of the warnings, then the one that R is compared by, of a car whose fields are in their ranges
pub products_le : (c : Car) → Ranges c
    → (c.gap * c.speed ≤ largest_product)
    × (25 * c.speed ≤ largest_product)
    × (30 * c.speed ≤ largest_product)
    × (15 * c.speed ≤ largest_product)
    × (8 * c.speed ≤ largest_product)
    × ((c.radar.range + 1) * 360 ≤ largest_product)
products_le c r =
    let v = r.speed in
    let range = r.range in
    (product_le (omega (arith, gap_le _ r.gap)) v, omega arith, omega arith, omega arith, omega arith, omega arith)

-- a lesson that reaches it: the key on, a car ahead at 10 km/h, 47 seconds of full gas
unfoldable pub reaching : List ℕ
reaching =
    word_of (Input (Key 1 false))
    ∷ word_of (Input (Key 2 true))
    ∷ word_of (Input (Radar 254 100))
    ∷ word_of (Input (Gas 225))
    ∷ replicate 47 (word_of (Tick true))

unfoldable pub fastest : Car
fastest = driven (fresh_car (settings_of 2 0 0)) reaching

pub product_reached : (30 * fastest.speed ≡ largest_product) × (secure_distance fastest ≡ 416)
unfolding fastest reaching fresh_car settings_of driven step_of chosen check_of reading_check event_check input_check own_check next_of reading_next event_next input_next word_of input_word bit_of read_of input_event tick_word input_of inputs_of key_on_of radar_word key_word judged input_range input_kind key_on key_skips key_check pedal_check radar_check tick_check key_radar key_turned gas_pressed reading_taken test_due radar_after tick_desired holds_desired tick_speed ticked acceleration_of speeding gas_term pulled change moved at_most with_pedals with_limiter with_radar metres secure_distance pick
product_reached = (refl, refl)
