use Rattle.std.proofs.Common.{arith}
use Rattle.listing.proofs.ListingLaws.{decimal_one}
use Rattle.listing.proofs.PutLaws.{put_as, put_then}
use Rattle.listing.proofs.Groups.{decimal_two, decimal_three, decimal_four}
use Rattle.listing.proofs.Putting.{stored_one}
use Rattle.listing.proofs.digits.put_small.Goals as goal

pub returns-then-n-lt10 : goal.returns-then-n-lt10
returns-then-n-lt10 c = put_as (stored_one _ _ _ (omega arith)) (decimal_one _ c.if-n-lt10.true) (omega arith)

pub returns-then-n-lt100 : goal.returns-then-n-lt100
returns-then-n-lt100 c = put_as c.put_two.ensures (decimal_two _ c.if-n-lt10.false c.if-n-lt100.true) (omega arith)

pub returns-then-n-lt1000 : goal.returns-then-n-lt1000
returns-then-n-lt1000 c =
    put_as (put_then (stored_one _ _ _ (omega arith)) c.put_two-then-n-lt1000.ensures (omega arith)) (decimal_three _ c.if-n-lt100.false c.if-n-lt1000.true) (omega arith)

pub returns : goal.returns
returns c = put_as c.put_four.ensures (decimal_four _ c.if-n-lt1000.false (omega arith)) (omega arith)
