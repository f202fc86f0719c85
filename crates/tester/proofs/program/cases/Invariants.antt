-- What the loop of cases keeps: where the first word is 0 nothing was put, and that word is the next.
use Rattle.std.proofs.Common.{◌≡◌, get_or}
use Rattle.tester.proofs.program.cases.Given as goal

abbrev pub invariant-loop : goal.invariant-loop
invariant-loop g l =
    record {
      callable : goal.F-IsAlwaysCallable g l.case;
      none : get_or l.words 0 0 ≡ 0 → (l.page ≡ l.initial.page) × (l.input.next ≡ 0) × (l.input.words.now ≡ l.words);
    }
