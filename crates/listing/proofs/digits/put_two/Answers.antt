use Rattle.listing.specs.Put.{two_of}
use Rattle.listing.proofs.Putting.{stored_two}
use Rattle.listing.proofs.digits.put_two.Goals as goal

pub returns : goal.returns
unfolding two_of
returns c = stored_two _ _ _ _ c.requires.1
