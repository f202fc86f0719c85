use Rattle.car.proofs.Going.{Going}
use Rattle.car.proofs.checked.GoodCar.teach.Given as goal

abbrev pub invariant-loop-i : goal.invariant-loop-i
invariant-loop-i l =
    Going l.words l.initial.answers l.initial.speeds l.halt l.mark l.initial.car l.answers l.speeds l.car l.refused l.seconds l.below l.i l.code l.answer
