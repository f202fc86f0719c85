use Rattle.std.proofs.Common.{refl}
use Rattle.exercise.proofs.Turning.{words_cut}
use Rattle.cleaning.specs.Pieces.{turn_of}
use Rattle.cleaning.proofs.Turning.{turn_room}
use Rattle.cleaning.proofs.turn.Goals as goal

pub returns : goal.returns
unfolding turn_of
returns c =
    let s = c.args in
    let e = c.words_of-n.ensures in
    rw (turn_room s.out.now s.car s.bytes.now c.if-out-lt-ROOM.false) (rw (words_cut _ _ refl e.0 e.1) at c.clean_words.ensures)
