use Rattle.std.proofs.Common.{◌∙◌, arith}
use borrow.Author.Tests.{not-true, not-false}
use Rattle.car.proofs.AccelerationLaws.{acceleration_code_lem}
use Rattle.car.proofs.AccelerationShapeLaws.{moved_of}
use Rattle.car.proofs.LessonShapeLaws.{moved_off, moved_on}
use Rattle.car.proofs.checked.GoodCar.moved.Goals as goal

pub speed_after-free-requires : goal.speed_after-free-requires
speed_after-free-requires _ c = omega (arith, c.requires, acceleration_code_lem _ c.args.self.good.ranges)

pub returns-then-not-self : goal.returns-then-not-self
returns-then-not-self _ c =
    moved_off _ _ (not-true _ c.if-not-self.true)
    (rw (c.at_most-limited.ensures, c.speed_after-free.ensures, moved_of _ _ c.args.self.good.ranges c.requires))

pub returns : goal.returns
returns _ c =
    moved_on _ _ _ (not-false _ c.if-not-self.false) c.hold_desired-desired.ensures
    (c.held_to.ensures ∙ rw (c.at_most-limited.ensures, c.speed_after-free.ensures, moved_of _ _ c.args.self.good.ranges c.requires))
