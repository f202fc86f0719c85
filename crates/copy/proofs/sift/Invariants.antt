use Rattle.std.specs.Iterator.Adapters.{zip_first, zip_second}
use Rattle.std.specs.Slice.Iter.{iter_rest}
use Rattle.copy.proofs.Parts.{Sifting}
use Rattle.copy.proofs.sift.Given as goal

abbrev pub invariant-loop-word : goal.invariant-loop-word
invariant-loop-word l = Sifting l.words l.answers l.fn.copy l.copy l.at l.end (iter_rest (zip_first l.word-iterator)) (iter_rest (zip_second l.word-iterator))
