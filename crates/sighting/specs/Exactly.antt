-- What the answer to a vehicle has to be, exactly, over the whole number m and the power of two e that each float's bits stand for.
-- Assumes nothing.
use Rattle.std.specs.Prelude.{false, ◌↔◌, ◌≡◌, ℕ, ◌+◌, ◌*◌, ◌≤◌, ◌<◌, Float, Some}
use Rattle.std.specs.Float.{nan, inf, fin}
use Rattle.std.specs.Float.Ieee.{up, down}
use Rattle.kit.specs.Answer.{gives}
use Rattle.event.specs.declared.Event.TheVariants as event
use Rattle.event.specs.declared.Input.TheVariants.{Radar}
use Rattle.sighting.specs.declared.Sighting.TheVariants.{Vehicle}
use Rattle.sighting.specs.Sighting.{seen_of}
use Rattle.sighting.specs.Value.{unusable}

-- n ≤ k × x
unfoldable pub Reaches : ℕ → Float → ℕ → Type 0
Reaches k nan n = ⊥
Reaches k (inf s) n = ⊥
Reaches k (fin s m e) n = n * down e ≤ k * (m * up e)

-- k × x < n
unfoldable pub Below : ℕ → Float → ℕ → Type 0
Below k nan n = ⊥
Below k (inf s) n = ⊥
Below k (fin s m e) n = k * (m * up e) < n * down e

-- n < x
unfoldable pub Above : ℕ → Float → Type 0
Above n nan = ⊥
Above n (inf s) = ⊥
Above n (fin s m e) = n * down e < m * up e

-- the float is a number, finite and not below zero
abbrev pub Usable : Float → Type 0
Usable x = unusable x ≡ false

-- the sighting gives the reading of range n and speed t
abbrev pub Reads : Float → Float → ℕ → ℕ → Type 0
Reads metres kmh n t = seen_of (Vehicle metres kmh) ≡ gives (Some (event.Input (Radar n t)))

-- of two floats that are usable, and a speed that is not above 500 km/h
pub record Exactly (metres kmh : Float) : Type 0 where
  -- range n, speed t, exactly when n ≤ metres < n + 1 and t ≤ 10 × km/h < t + 1
  pub car : (n t : ℕ) → 1 < n → n ≤ 254
      → Reads metres kmh n t ↔ Reaches 1 metres n × Below 1 metres (n + 1) × Reaches 10 kmh t × Below 10 kmh (t + 1)
  -- range 1 exactly when metres < 2
  pub near : (t : ℕ) → Reads metres kmh 1 t ↔ Below 1 metres 2 × Reaches 10 kmh t × Below 10 kmh (t + 1)
  -- a free road exactly when 255 ≤ metres
  pub free : Reads metres kmh 0 0 ↔ Reaches 1 metres 255
  -- and it is one of these
  pub some_reading : (n : ℕ) × (t : ℕ) × Reads metres kmh n t × (n ≤ 254) × (t ≤ 5000)
