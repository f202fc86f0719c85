use Rattle.std.specs.Iterator.Adapters.{zip_first, zip_second}
use Rattle.std.specs.Slice.Iter.{iter_rest}
use Rattle.listing.proofs.Going.{Lining}
use Rattle.listing.proofs.put_lines.Given as goal

abbrev pub invariant-loop-word : goal.invariant-loop-word
invariant-loop-word l = Lining l.answers l.speeds l.initial.out l.at l.first l.out l.end l.number (iter_rest (zip_first l.word-iterator)) (iter_rest (zip_second l.word-iterator))
