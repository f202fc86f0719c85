use Rattle.std.proofs.Common.{◌≡◌, take}
use Rattle.kit.specs.Placed.{placed}
use Rattle.wire.specs.Wire.{bytes_of}
use Rattle.wire.proofs.bytes_of.Given as goal

abbrev pub invariant-loop-i : goal.invariant-loop-i
invariant-loop-i l = l.bytes ≡ placed l.initial.bytes 0 (bytes_of (take l.i l.word-items))
