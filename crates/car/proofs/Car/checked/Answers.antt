use Rattle.std.proofs.Common.{sym, ◌∙◌}
use Rattle.car.proofs.GoodLaws.{good}
use Rattle.car.proofs.Car.checked.Goals as goal

pub invariant_of-result : goal.invariant_of-result
invariant_of-result c = record { good = good _ (sym c.good.ensures ∙ c.if-not-good.false) }
