use Rattle.std.proofs.Common.{arith}
use Rattle.listing.specs.Listing.{ascii}
use Rattle.listing.proofs.Answers.{no_room, line_put}
use Rattle.listing.proofs.text.put_number_line.Goals as goal

pub returns-then-not-has_room : goal.returns-then-not-has_room
returns-then-not-has_room c = no_room _ _ _ _ c.has_room.ensures c.if-not-has_room.true

pub returns : goal.returns
unfolding ascii
returns c = line_put _ _ c.args.name.now _ c.has_room.ensures c.if-not-has_room.false (omega arith) c.put_text-number.ensures c.put_decimal-end.ensures c.put_text.ensures
