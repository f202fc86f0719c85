use Rattle.std.proofs.Common.{refl, arith, length-take-le}
use Rattle.wire.proofs.WireLaws.{count_le}
use Rattle.exercise.proofs.Turning.{words_cut}
use Rattle.marking.specs.Pieces.{idle, turn_of}
use Rattle.marking.proofs.Turning.{turned}
use Rattle.marking.proofs.turn.Goals as goal

pub returns-in-Some : goal.returns-in-Some
unfolding turn_of
returns-in-Some c =
    let e = c.words_of-n.ensures in
    let size = length-take-le c.words_of-n.result c.words_of-n.new.words (omega (arith, count_le _ _ refl e.0)) in
    rw (words_cut _ _ refl e.0 e.1) at (rw size at (turned c.args.mark c.args.stage _ _ c.in-Some.ensures))

pub returns-in-None : goal.returns-in-None
unfolding turn_of idle
returns-in-None c = let e = c.words_of-n.ensures in rw (words_cut _ _ refl e.0 e.1) at (turned c.args.mark c.args.stage _ _ c.in-None.ensures)
