use Rattle.std.proofs.Common.{◌≡◌, ◌+◌, ◌-◌, ap, ◌∙◌, rules}
use Rattle.std.proofs.Math.Nat.{min_comm}
use Rattle.motion.specs.Acceleration.{acceleration_code}
use Rattle.motion.proofs.AccelerationShapeLaws.{towards_below, towards_above}
use Rattle.car.proofs.acceleration.towards.Goals as goal

pub returns-then-speed-target-2 : goal.returns-then-speed-target-2
returns-then-speed-target-2 c =
    let d : c.abs_diff.result ≡ (c.args.speed - c.args.target) + (c.args.target - c.args.speed) = c.abs_diff.ensures in
    c.speeding-then-speed-target-2.ensures
    ∙ rw (c.min.ensures, min_comm c.strived-strived.result 10, c.strived-strived.ensures, d) (ap acceleration_code (towards_below _ _ c.if-speed-target-2.true))

pub returns : goal.returns
returns c =
    let d : c.abs_diff.result ≡ (c.args.speed - c.args.target) + (c.args.target - c.args.speed) = c.abs_diff.ensures in
    c.slowing.ensures
    ∙ rw (c.min-2.ensures, min_comm c.strived-strived.result 30, c.strived-strived.ensures, d) (ap acceleration_code (towards_above _ _ (search rules)))
