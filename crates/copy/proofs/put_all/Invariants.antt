use Rattle.std.proofs.Common.{◌≡◌, take}
use Rattle.kit.specs.Placed.{placed}
use Rattle.copy.proofs.put_all.Given as goal

abbrev pub invariant-loop-i : goal.invariant-loop-i
invariant-loop-i l = l.copy ≡ placed l.fn.copy l.at (take l.i l.words)
