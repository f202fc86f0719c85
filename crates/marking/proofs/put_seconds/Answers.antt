use Rattle.std.proofs.Common.{arith}
use Rattle.listing.specs.Listing.{ascii}
use Rattle.listing.proofs.ListingLaws.{line_length}
use Rattle.listing.proofs.PutLaws.{was_put}
use Rattle.marking.specs.Marking.{seconds_text}
use Rattle.marking.proofs.put_seconds.Goals as goal

pub returns : goal.returns
unfolding seconds_text ascii
returns c = was_put _ _ 29 _ (omega arith) (line_length (ascii "seconds ") _ (omega arith)) c.put_number_line.ensures
