use Rattle.std.proofs.Common.{◌≡◌}
use Rattle.std.specs.Slice.Iter.{chunks_rest, chunks_size}
use Rattle.copy.proofs.Parts.{Writing}
use Rattle.copy.proofs.write.Given as goal

abbrev pub invariant-loop-part : goal.invariant-loop-part
invariant-loop-part l = (chunks_size l.part-iterator ≡ 1024) × Writing l.fn.first l.words l.fn.copy l.car (chunks_rest l.part-iterator) l.copy l.written
