use Rattle.std.proofs.Common.{refl, arith}
use Rattle.listing.specs.Listing.{ascii}
use Rattle.listing.proofs.ListingLaws.{line_length}
use Rattle.listing.proofs.PutLaws.{was_put, put_as}
use Rattle.marking.specs.Marking.{passed_text}
use Rattle.marking.proofs.put_passed.Goals as goal

pub returns-in-Some : goal.returns-in-Some
unfolding passed_text ascii
returns-in-Some c = rw c.in-Some.is (was_put _ _ 27 _ (omega arith) (line_length (ascii "event ") _ (omega arith)) c.put_number_line.ensures)

pub returns-in-None : goal.returns-in-None
unfolding passed_text ascii
returns-in-None c = rw c.in-None.is (put_as (was_put _ _ 6 _ (omega arith) (omega arith) c.put_text.ensures) refl (omega arith))
