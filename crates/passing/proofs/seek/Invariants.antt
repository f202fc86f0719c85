use Rattle.std.proofs.Common.{◌≡◌}
use Rattle.std.specs.Slice.Iter.{chunks_rest, chunks_size}
use Rattle.passing.proofs.Parts.{Seeking}
use Rattle.passing.proofs.seek.Given as goal

abbrev pub invariant-loop-part : goal.invariant-loop-part
invariant-loop-part l = (chunks_size l.parts ≡ 1024) × Seeking l.mark l.fn.first l.words l.car (chunks_rest l.parts) l.seconds l.before
