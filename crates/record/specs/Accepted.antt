-- When a record is accepted: document 01, "The record" ("Accepted exactly when marks, ranges, zero bits, the T and B rule, T ≤ now and
-- (a) to (f), as far as one car shows them, hold"), and document 02, §12.
-- Assumes nothing.
use Rattle.std.specs.Prelude.{List, [], ◌≡◌, ℕ, ◌<◌, length, get_or}
use Rattle.car.specs.Standing.{Good}
use Rattle.record.specs.Layout.{layout, mark_of, place_of, unnamed_of, unpacked}
use Rattle.record.specs.Record.{offered}

pub record Accepted (ws : List ℕ) : Type 0 where
  -- "The twelve words"
  pub twelve : length ws ≡ 12
  -- "Each: bits 28-31 are 11"
  pub marks : (p : ℕ) → p < 12 → mark_of (get_or ws p 0) ≡ 11
  -- "bits 24-27 its place 0..11"
  pub places : (p : ℕ) → p < 12 → place_of (get_or ws p 0) ≡ p
  -- "zero bits": no bit is set that the layout does not name
  pub zeros : (p : ℕ) → p < 12 → unnamed_of (get_or layout p []) (get_or ws p 0) ≡ 0
  -- "ranges, .. the T and B rule, T ≤ now and (a) to (f), as far as one car shows them": each is a field of `Good`; "A record that holds 30 is still
  -- accepted": of the car with 25 for it, and no rule but its range speaks of the gap
  pub good : Good (offered (unpacked ws))
