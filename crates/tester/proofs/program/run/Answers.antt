use Rattle.std.proofs.Common.{rules, refl}
use Rattle.tester.proofs.program.run.Goals as goal

pub returns : goal.returns
returns g c h = (_, _, _, c.lines.ensures, refl, refl, search rules)
