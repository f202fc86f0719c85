use Rattle.std.proofs.Common.{arith}
use Rattle.listing.specs.Listing.{field_of}
use Rattle.listing.proofs.PutLaws.{put_then}
use Rattle.listing.proofs.Putting.{stored_one}
use Rattle.listing.proofs.line.put_field.Goals as goal

pub returns : goal.returns
unfolding field_of
returns c = put_then c.put_number-end.ensures (stored_one _ _ _ (omega arith)) (omega arith)
