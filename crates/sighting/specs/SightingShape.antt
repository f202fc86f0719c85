-- How the code goes: a float's whole number is worked out up to 2^23, which is past all that is looked at; then metres, then km/h.
-- Assumes nothing.
use Rattle.std.specs.Prelude.{ℕ, min, Float, Option, Some}
use Rattle.kit.specs.Answer.{Answer, gives, refused}
use Rattle.kit.specs.Pick.{pick}
use Rattle.event.specs.declared.Event.{Event}
use Rattle.sighting.specs.Sighting.{reading_of}
use Rattle.sighting.specs.Value.{unusable, above, floor_times}

-- 2^23
abbrev pub large : ℕ
large = 8388608

unfoldable pub whole_of : ℕ → Float → Answer ℕ
whole_of k x = pick (unusable x) (refused 22) (gives (min (floor_times k x) large))

-- the answer by the speed, where metres are usable
unfoldable pub at_speed : ℕ → Float → Answer (Option Event)
at_speed metres kmh =
    pick (unusable kmh) (refused 22)
    (pick (above 500 kmh) (refused 23)
    (gives (Some (reading_of metres (floor_times 10 kmh)))))

-- an event's writing, where there is an event
unfoldable pub written : Answer ℕ → Answer (Option ℕ)
written (gives w) = gives (Some w)
written (refused n) = refused n
