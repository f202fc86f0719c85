use Rattle.std.proofs.Common.{refl}
use Rattle.exercise.proofs.Turning.{words_cut}
use Rattle.moving.specs.Pieces.{turn_of}
use Rattle.moving.proofs.turn.Goals as goal

pub returns : goal.returns
unfolding turn_of
returns c = let e = c.words_of-n.ensures in rw (words_cut _ _ refl e.0 e.1) at c.drive.ensures
