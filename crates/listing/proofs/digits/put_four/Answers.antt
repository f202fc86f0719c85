use Rattle.std.proofs.Common.{arith}
use Rattle.listing.specs.Put.{four_of}
use Rattle.listing.proofs.PutLaws.{put_then}
use Rattle.listing.proofs.digits.put_four.Goals as goal

pub returns : goal.returns
unfolding four_of
returns c = put_then c.put_two-middle.ensures c.put_two.ensures (omega arith)
