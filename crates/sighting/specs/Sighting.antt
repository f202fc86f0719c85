-- The scene engine's sightings: document 02, §7.
-- Assumes nothing.
use Rattle.std.specs.Prelude.{◌||◌, ℕ, max, leb, Float, Option, Some, None}
use Rattle.kit.specs.Answer.{Answer, gives, refused}
use Rattle.kit.specs.Pick.{pick}
use Rattle.event.specs.declared.Event.{Event}
use Rattle.event.specs.declared.Event.TheVariants as event
use Rattle.event.specs.declared.Input.TheVariants.{Radar}
use Rattle.event.specs.Words.{word_of}
use Rattle.sighting.specs.declared.Sighting.{Sighting}
use Rattle.sighting.specs.declared.Sighting.TheVariants.{Vehicle, Free, Fault}
use Rattle.sighting.specs.Value.{unusable, above, floor_times}

-- "A free road gives range 0 and speed 0"
abbrev pub free_road : Event
free_road = event.Input (Radar 0 0)

-- "Metres are rounded down, below 1 counts as 1, and 255 or more is a free road": of whole metres and tenths of km/h
unfoldable pub reading_of : ℕ → ℕ → Event
reading_of metres tenths = pick (leb 255 metres) free_road (event.Input (Radar (max metres 1) tenths))

-- 22 "a float that is no number, infinite or below zero", 23 "a speed above 500 km/h"; "22 is looked at first". "Speeds of a car past 254 metres
-- are checked all the same". "Speed is the whole number of tenths at or below the float's exact value times ten"
unfoldable pub vehicle_of : Float → Float → Answer (Option Event)
vehicle_of metres kmh =
    pick (unusable metres || unusable kmh) (refused 22)
    (pick (above 500 kmh) (refused 23)
    (gives (Some (reading_of (floor_times 1 metres) (floor_times 10 kmh)))))

-- "The engine's sighting is one of three: a car, with metres and km/h as 32-bit floats; a free road; a fault. It becomes a radar event."
-- "A fault gives no event and says so"
unfoldable pub seen_of : Sighting → Answer (Option Event)
seen_of (Vehicle metres kmh) = vehicle_of metres kmh
seen_of Free = gives (Some free_road)
seen_of Fault = gives None

-- the event as its word
unfoldable pub as_word : Answer (Option Event) → Answer (Option ℕ)
as_word (gives (Some e)) = gives (Some (word_of e))
as_word (gives None) = gives None
as_word (refused n) = refused n

unfoldable pub seen_word : Sighting → Answer (Option ℕ)
seen_word s = as_word (seen_of s)
