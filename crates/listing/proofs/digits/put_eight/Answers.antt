use Rattle.std.proofs.Common.{arith}
use Rattle.listing.specs.Put.{eight_of}
use Rattle.listing.proofs.PutLaws.{put_then}
use Rattle.listing.proofs.digits.put_eight.Goals as goal

pub returns : goal.returns
unfolding eight_of
returns c = put_then c.put_four-middle.ensures c.put_four.ensures (omega arith)
