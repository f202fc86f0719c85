use Rattle.std.proofs.Common.{arith}
use Rattle.listing.proofs.ListingLaws.{signed_below, signed_above}
use Rattle.listing.proofs.PutLaws.{put_as, put_then}
use Rattle.listing.proofs.Putting.{stored_one}
use Rattle.listing.proofs.line.put_signed.Goals as goal

pub returns-then-code-lt60 : goal.returns-then-code-lt60
returns-then-code-lt60 c =
    put_as (put_then (stored_one _ _ _ (omega arith)) c.put_small_field.ensures (omega arith)) (signed_below _ c.if-code-lt60.true) (omega arith)

pub returns : goal.returns
returns c = put_as c.put_small_field-2.ensures (signed_above _ c.if-code-lt60.false) (omega arith)
