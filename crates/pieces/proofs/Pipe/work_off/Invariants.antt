-- What the loop of work_off keeps.
use Rattle.std.proofs.Common.{◌≤◌}
use Rattle.pieces.proofs.Pipe.work_off.Given as goal

abbrev pub invariant-loop : goal.invariant-loop
invariant-loop g l = l.held ≤ 4096
