use Rattle.std.proofs.Common.{arith}
use Rattle.listing.proofs.PutLaws.{put_as, put_then}
use Rattle.listing.proofs.Groups.{past_four}
use Rattle.listing.proofs.digits.put_middle.Goals as goal

pub returns : goal.returns
returns c = put_as (put_then c.put_small-middle.ensures c.put_four.ensures (omega arith)) (past_four _ c.if-n-lt10000.false) (omega arith)
