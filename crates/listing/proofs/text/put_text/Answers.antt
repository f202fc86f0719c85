use Rattle.std.proofs.Common.{refl}
use Rattle.kit.specs.Placed.{placed_copied}
use Rattle.listing.proofs.Answers.{no_room, room}
use Rattle.listing.proofs.text.put_text.Goals as goal

pub returns-then-not-has_room : goal.returns-then-not-has_room
returns-then-not-has_room c = no_room _ _ _ _ c.has_room.ensures c.if-not-has_room.true

pub returns : goal.returns
returns c = room _ _ _ _ c.has_room.ensures c.if-not-has_room.false refl (rw c.copy_from_slice.ensures.after (placed_copied _ _ _ _ refl))
