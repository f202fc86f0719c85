-- The reader of a record before document 02, §12, when 3.0 seconds could be chosen. It stands in this file alone, with what is promised of it: "A record
-- that holds 30 is still accepted and gives a car with 25", and nothing else about acceptance moved.
-- Assumes nothing.
use Rattle.std.specs.Prelude.{Bool, ◌&&◌, ◌||◌, ◌≡◌, List, ℕ, eqb}
use Rattle.kit.specs.Answer.{Answer, gives, refused}
use Rattle.kit.specs.Pick.{pick}
use Rattle.car.specs.declared.Car.{Car}
use Rattle.car.specs.Car.{ceiling_of}
use Rattle.car.specs.Good.{positions_of, numbers_of, obeys_of}
use Rattle.record.specs.Layout.{packed, unpacked}
use Rattle.record.specs.Record.{same_words, offered, read_of}

-- "G chosen gap in tenths of a second: 20, 25 or 30"
unfoldable pub permitted_before : ℕ → Bool
permitted_before n = eqb n 20 || eqb n 25 || eqb n 30

-- the good-car test over the ceiling, by that range
unfoldable pub good_before : ℕ → Car → Bool
good_before top c = (positions_of c && numbers_of top c && permitted_before c.gap) && obeys_of top c

-- the car that the words' fields say, where it is good and these are its words, or 18
unfoldable pub read_before : List ℕ → Answer Car
read_before ws =
    pick (good_before (ceiling_of (unpacked ws).settings) (unpacked ws) && same_words (packed (unpacked ws)) ws) (gives (unpacked ws)) (refused 18)

-- "a car with 25" for the gap 30, where one was read
unfoldable pub offering : Answer Car → Answer Car
offering (gives c) = gives (offered c)
offering (refused n) = refused n

-- of any words: accepted exactly where they were, and the same car but for that gap
abbrev pub ReadAsBefore : List ℕ → Type 0
ReadAsBefore ws = read_of ws ≡ offering (read_before ws)
