-- Vehicles by the bits of their floats: metres, then km/h.
-- Assumes nothing.
use Rattle.std.specs.Prelude.{◌≡◌, refl, ℕ, Option, Some}
use Rattle.std.specs.Float.{binary32}
use Rattle.std.specs.Float.Ieee.{of_bits}
use Rattle.kit.specs.Answer.{Answer, gives, refused}
use Rattle.kit.specs.Pick.{pick}
use Rattle.event.specs.declared.Event.{Event}
use Rattle.event.specs.declared.Event.TheVariants as event
use Rattle.event.specs.declared.Input.TheVariants.{Radar}
use Rattle.sighting.specs.declared.Sighting.TheVariants.{Vehicle}
use Rattle.sighting.specs.Sighting.{reading_of, vehicle_of, seen_of}
use Rattle.sighting.specs.Value.{unusable, above, floor_times}

abbrev seen : ℕ → ℕ → Answer (Option Event)
seen metres kmh = seen_of (Vehicle (of_bits binary32 metres) (of_bits binary32 kmh))

abbrev radar : ℕ → ℕ → Answer (Option Event)
radar range speed = gives (Some (event.Input (Radar range speed)))

-- 20 m; "0.1 as stored gives 1", the float below it 0
pub a_tenth : seen 0x41a0_0000 0x3dcc_cccd ≡ radar 20 1
unfolding seen_of vehicle_of reading_of unusable above floor_times of_bits pick
a_tenth = refl

pub under_a_tenth : seen 0x41a0_0000 0x3dcc_cccc ≡ radar 20 0
unfolding seen_of vehicle_of reading_of unusable above floor_times of_bits pick
under_a_tenth = refl

-- 500 km/h, and the next float above
pub at_500 : seen 0x41a0_0000 0x43fa_0000 ≡ radar 20 5000
unfolding seen_of vehicle_of reading_of unusable above floor_times of_bits pick
at_500 = refl

pub over_500 : seen 0x41a0_0000 0x43fa_0001 ≡ refused 23
unfolding seen_of vehicle_of reading_of unusable above floor_times of_bits pick
over_500 = refl

-- the float below 255 m, and 255 m
pub under_255 : seen 0x437e_ffff 0x4248_0000 ≡ radar 254 500
unfolding seen_of vehicle_of reading_of unusable above floor_times of_bits pick
under_255 = refl

pub at_255 : seen 0x437f_0000 0x4248_0000 ≡ radar 0 0
unfolding seen_of vehicle_of reading_of unusable above floor_times of_bits pick
at_255 = refl

-- the largest float, and a speed that is checked all the same
pub far : seen 0x7f7f_ffff 0x4248_0000 ≡ radar 0 0
unfolding seen_of vehicle_of reading_of unusable above floor_times of_bits pick
far = refl

pub far_and_fast : seen 0x7f7f_ffff 0x43fa_0001 ≡ refused 23
unfolding seen_of vehicle_of reading_of unusable above floor_times of_bits pick
far_and_fast = refl

-- minus zero, the smallest float, and the one next to zero from below
pub minus_zeros : seen 0x8000_0000 0x8000_0000 ≡ radar 1 0
unfolding seen_of vehicle_of reading_of unusable above floor_times of_bits pick
minus_zeros = refl

pub smallest : seen 1 1 ≡ radar 1 0
unfolding seen_of vehicle_of reading_of unusable above floor_times of_bits pick
smallest = refl

pub below_zero : seen 0x8000_0001 0 ≡ refused 22
unfolding seen_of vehicle_of reading_of unusable above floor_times of_bits pick
below_zero = refl

-- 22 before 23: no number, infinite and below zero, in either float
pub no_number : seen 0x7fc0_0000 0x43fa_0001 ≡ refused 22
unfolding seen_of vehicle_of reading_of unusable above floor_times of_bits pick
no_number = refl

pub infinite : seen 0x7f80_0000 0x43fa_0001 ≡ refused 22
unfolding seen_of vehicle_of reading_of unusable above floor_times of_bits pick
infinite = refl

pub fast_below_zero : seen 0x41a0_0000 0xc3fa_0001 ≡ refused 22
unfolding seen_of vehicle_of reading_of unusable above floor_times of_bits pick
fast_below_zero = refl
