-- What the loop of numbers keeps: what is left, put after what was put, gives the whole.
use Rattle.std.proofs.Common.{◌≡◌, drop}
use Rattle.tester.specs.Output.{put_numbers}
use Rattle.tester.specs.Puts.{shown}
use Rattle.tester.proofs.output.Page.numbers.Given as goal

abbrev pub invariant-loop-word : goal.invariant-loop-word
invariant-loop-word l =
    record {
      same : l.self.out.ghost_name ≡ l.initial.self.out.ghost_name;
      rest : put_numbers (shown l.self) (drop l.word-index l.words) ≡ put_numbers (shown l.initial.self) l.words;
    }
