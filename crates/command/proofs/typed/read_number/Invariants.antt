-- What the loop of read_number keeps.
use Rattle.command.proofs.Reading.{Left}
use Rattle.command.proofs.typed.read_number.Given as goal

abbrev pub invariant-loop-byte : goal.invariant-loop-byte
invariant-loop-byte l = Left l.text l.value l.byte-index
