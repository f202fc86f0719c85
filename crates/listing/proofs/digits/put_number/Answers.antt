use Rattle.std.proofs.Common.{arith}
use Rattle.listing.proofs.PutLaws.{put_as, put_then}
use Rattle.listing.proofs.Groups.{past_eight, past_sixteen}
use Rattle.listing.proofs.digits.put_number.Goals as goal

pub returns-then-high-lt100000000 : goal.returns-then-high-lt100000000
returns-then-high-lt100000000 c =
    put_as (put_then c.put_middle-middle.ensures c.put_eight.ensures (omega arith)) (past_eight _ c.if-n-lt100000000.false) (omega arith)

pub returns : goal.returns
returns c =
    put_as (put_then (put_then c.put_small-first.ensures c.put_eight-second.ensures (omega arith)) c.put_eight-2.ensures (omega arith)) (past_sixteen _ c.if-high-lt100000000.false) (omega arith)
