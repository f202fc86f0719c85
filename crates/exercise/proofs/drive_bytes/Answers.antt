use Rattle.std.proofs.Common.{refl}
use Rattle.exercise.specs.Pieces.{events_turn}
use Rattle.exercise.proofs.Turning.{words_cut}
use Rattle.exercise.proofs.drive_bytes.Goals as goal

pub returns : goal.returns
unfolding events_turn
returns c =
    let e = c.words_of-n.ensures in
    rw (words_cut _ _ refl e.0 e.1) at c.drive_words.ensures
