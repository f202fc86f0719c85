use Rattle.std.proofs.Common.{refl, sym}
use Rattle.kit.specs.Placed.{placed_nothing}
use Rattle.exercise.specs.Pieces.{turn_of}
use Rattle.exercise.proofs.Turning.{undone, turn_short, turn_room, answered}
use Rattle.exercise.proofs.turn.Goals as goal

pub returns-then-out-lt-ROOM : goal.returns-then-out-lt-ROOM
returns-then-out-lt-ROOM c = undone _ _ (turn_short _ _ _ c.if-out-lt-ROOM.true) c.nothing_done.ensures

pub returns-in-Awaited : goal.returns-in-Awaited
returns-in-Awaited c = let s = c.args in rw (turn_room s.out.now s.stage s.bytes.now c.if-out-lt-ROOM.false, c.in-Awaited.is) c.«open».ensures

pub returns-in-Driving : goal.returns-in-Driving
unfolding turn_of
returns-in-Driving c = let s = c.args in rw (turn_room s.out.now s.stage s.bytes.now c.if-out-lt-ROOM.false, c.in-Driving.is) c.drive_bytes.ensures

pub returns-in-Ended : goal.returns-in-Ended
unfolding turn_of
returns-in-Ended c =
    let s = c.args in
    rw (turn_room s.out.now s.stage s.bytes.now c.if-out-lt-ROOM.false, c.in-Ended.is) (answered _ _ _ refl, sym (placed_nothing _ 0))
