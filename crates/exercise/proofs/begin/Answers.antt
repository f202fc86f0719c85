use Rattle.std.proofs.Common.{◌-◌, length, drop, arith, length-take}
use Rattle.exercise.proofs.PiecesLaws.{end_within}
use Rattle.exercise.proofs.Turning.{headed_put, used_le}
use Rattle.exercise.proofs.begin.Goals as goal

pub overflow_add-result : goal.overflow_add-result
overflow_add-result c = omega (arith, used_le _ _ c.drive_bytes-turned.ensures.0)

pub overflow_add-result-2 : goal.overflow_add-result-2
overflow_add-result-2 c =
    let e = c.drive_bytes-turned.ensures in
    let l = c.drive_bytes-turned.auto.out in
    omega (arith, c.put_head-head.ensures.1, end_within _ _ _ e.0 e.1 l, l, length-take (length c.put_head-head.new.out - c.put_head-head.result) (drop c.put_head-head.result c.put_head-head.new.out))

pub returns : goal.returns
returns c = headed_put _ _ c.requires c.put_head-head.ensures c.drive_bytes-turned.ensures
