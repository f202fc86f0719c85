use Rattle.std.proofs.Common.{drop}
use Rattle.listing.proofs.Going.{Going}
use Rattle.moving.specs.Moving.{word_lines}
use Rattle.moving.proofs.put_words.Given as goal

-- the lines of the words from here on give the whole
abbrev pub invariant-loop-word : goal.invariant-loop-word
invariant-loop-word l = Going l.initial.out l.at (word_lines l.fn.words) l.out l.end (word_lines (drop l.word-index l.fn.words))
