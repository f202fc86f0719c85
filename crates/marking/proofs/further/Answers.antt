use Rattle.std.proofs.Common.{arith}
use Rattle.marking.proofs.Turning.{went}
use Rattle.marking.proofs.further.Goals as goal

pub returns : goal.returns
returns c =
    let s = c.args in
    let n = c.in_ok-events.ensures in
    rw n.1 (went s.mark s.stage s.words.now _ _ c.in_ok-page.ensures.value c.drive.ensures (omega (arith, n.0)) (omega (arith, c.in_ok-checked_add.ensures.0)))
