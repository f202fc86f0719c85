use Rattle.std.proofs.Common.{arith}
use Rattle.listing.proofs.ListingLaws.{warnings_four}
use Rattle.listing.proofs.PutLaws.{put_as}
use Rattle.listing.proofs.Putting.{stored_four}
use Rattle.listing.proofs.line.put_warnings.Goals as goal

pub returns : goal.returns
returns c = put_as (stored_four _ _ _ _ _ _ c.requires.2) (warnings_four _ _ c.requires.0 c.requires.1) (omega arith)
