use Rattle.std.proofs.Common.{arith}
use Rattle.marking.proofs.Writing.{end_put}
use Rattle.marking.proofs.put_result.Goals as goal

pub returns : goal.returns
returns c =
    end_put _ _ _ (omega arith) c.put_passed-seconds.ensures c.put_seconds-refusal.ensures c.close.ensures c.put_refusal.ensures
