use Rattle.std.proofs.Common.{◌≡◌}
use Rattle.std.specs.Slice.Iter.{chunks_rest, chunks_size}
use Rattle.copy.proofs.Parts.{Counting}
use Rattle.copy.proofs.fits.Given as goal

abbrev pub invariant-loop-part : goal.invariant-loop-part
invariant-loop-part l = (chunks_size l.part-iterator ≡ 1024) × Counting l.fn.first l.words l.room l.car (chunks_rest l.part-iterator) l.left l.ahead
