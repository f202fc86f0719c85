-- What the loop of read_all keeps.
use Rattle.std.proofs.Common.{List, ℕ, Option, length, ◌-◌, ◌≤◌, take}
use Rattle.std.specs.Io.KnownBytes.{Consumes}
use Rattle.console.proofs.read_all.Given as goal

pub record Kept (known left : Option (List ℕ)) (at : ℕ) (bytes : List ℕ) : Type 0 where
  pub within : at ≤ length bytes
  pub read : Consumes known left (take at bytes)

abbrev pub invariant-loop-at : goal.invariant-loop-at
invariant-loop-at g l = Kept (g.I.Read.remaining l.initial.input) (g.I.Read.remaining l.input) l.at l.bytes

abbrev pub decreases-loop-at : goal.decreases-loop-at
decreases-loop-at g l = length l.bytes - l.at
