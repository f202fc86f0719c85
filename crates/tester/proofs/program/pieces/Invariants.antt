use Rattle.std.proofs.Common.{◌≤◌, ◌-◌, length}
use Rattle.tester.proofs.program.pieces.Given as goal

abbrev pub invariant-loop-to : goal.invariant-loop-to
invariant-loop-to g l = record { order : l.from ≤ l.to; within : l.to ≤ length l.bytes; callable : goal.F-IsAlwaysCallable g l.turn }

abbrev pub decreases-loop-to : goal.decreases-loop-to
decreases-loop-to g l = length l.bytes - l.to
