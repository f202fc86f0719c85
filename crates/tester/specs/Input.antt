-- Words of the input. One past its end is 0.
-- Assumes nothing.
use Rattle.std.specs.Prelude.{List, [], ◌∷◌, ℕ, zero, suc, eqb}
use Rattle.std.specs.Float.{binary32}
use Rattle.std.specs.Float.Ieee.{of_bits}
use Rattle.kit.specs.Answer.{Answer, gives, refused}
use Rattle.kit.specs.Pick.{pick}
use Rattle.sighting.specs.declared.Sighting.{Sighting}
use Rattle.sighting.specs.declared.Sighting.TheVariants.{Vehicle, Free, Fault}

-- the first n words
unfoldable pub first_of : ℕ → List ℕ → List ℕ
first_of zero ws = []
first_of (suc n) [] = 0 ∷ first_of n []
first_of (suc n) (w ∷ ws) = w ∷ first_of n ws

-- a word that was written, or 0
unfoldable pub word_or0 : Answer ℕ → ℕ
word_or0 (gives w) = w
word_or0 (refused n) = 0

-- a sighting by its kind and the bits of its floats
unfoldable pub sighting_of : ℕ → ℕ → ℕ → Sighting
sighting_of kind metres kmh = pick (eqb kind 0) (Vehicle (of_bits binary32 metres) (of_bits binary32 kmh)) (pick (eqb kind 1) Free Fault)
