-- The document's bounds, by name: "The car and a fresh one", "Rules of each event" and (g) of "Standing rules".
-- Assumes nothing.
use Rattle.std.specs.Prelude.{ℕ}

-- "b brake and g gas, 0..225", "v speed and Z limit, 0..5000", "D desired, 0..2000", "now, 0..86,400"
abbrev pub pedal_ceiling : ℕ
pedal_ceiling = 225

abbrev pub speed_ceiling : ℕ
speed_ceiling = 5000

abbrev pub desired_ceiling : ℕ
desired_ceiling = 2000

-- "With it the ceiling 2000 on D and B is 1000": towing (document 02, §11)
abbrev pub towing_ceiling : ℕ
towing_ceiling = 1000

abbrev pub lesson_length : ℕ
lesson_length = 86400

-- the time from one test of the radar to the next
abbrev pub test_period : ℕ
test_period = 600

-- full brake is −60 and full gas 30 (document 02, §3): the most that a can be, down and up
abbrev pub full_brake : ℕ
full_brake = 60

abbrev pub full_gas : ℕ
full_gas = 30

-- (g) the most by which a tick moves v, up and down
abbrev pub most_rise : ℕ
most_rise = 108

abbrev pub most_fall : ℕ
most_fall = 216
