use Rattle.std.proofs.Common.{arith, sym, ◌∙◌}
use Rattle.tester.proofs.OutputLaws.{numbers_next, numbers_end}
use Rattle.tester.proofs.output.Page.numbers.Goals as goal

pub loop-word-preserved : goal.loop-word-preserved
loop-word-preserved c =
    record {
      same = c.number.ensures.0 ∙ c.loop-word.invariant.same;
      rest = rw c.number.ensures.1 (sym (numbers_next _ c.args.words.now c.loop-word.word-index (omega arith)) ∙ c.loop-word.invariant.rest);
    }

pub returns : goal.returns
returns c = (c.loop-word.invariant.same, sym (numbers_end _ c.args.words.now c.loop-word.word-index (omega arith)) ∙ c.loop-word.invariant.rest)
