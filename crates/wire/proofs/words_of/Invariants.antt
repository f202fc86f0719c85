use Rattle.std.proofs.Common.{◌≡◌, ◌++◌, take, drop}
use Rattle.wire.specs.Wire.{words_of}
use Rattle.wire.proofs.words_of.Given as goal

abbrev pub invariant-loop-i : goal.invariant-loop-i
invariant-loop-i l = l.words ≡ take l.i (words_of l.bytes) ++ drop l.i l.initial.words
