use Rattle.std.proofs.Common.{arith}
use Rattle.event.proofs.RefusalLaws.{number_range}
use Rattle.listing.proofs.ListingLaws.{refused_length}
use Rattle.listing.proofs.PutLaws.{was_put}
use Rattle.marking.proofs.Writing.{some_put}
use Rattle.marking.proofs.put_refusal.Goals as goal

pub returns-in-Err : goal.returns-in-Err
returns-in-Err c =
    let n = number_range c.in-Err.refusal in
    rw (c.in-Err.is, some_put c.in-Err.refusal) (was_put _ _ 29 _ (omega arith) (refused_length _ (omega (arith, n.1))) (rw c.from.ensures at c.put_refused.ensures))
