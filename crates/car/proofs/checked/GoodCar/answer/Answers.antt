use Rattle.car.proofs.LessonShapeLaws.{accepted_written}
use Rattle.car.proofs.checked.GoodCar.answer.Goals as goal

pub returns : goal.returns
returns c = accepted_written _ _ _ _ _ c.args.self.good.ranges c.visual.ensures c.acoustic.ensures c.requires c.from.ensures
