use Rattle.std.proofs.Common.{ap, ◌∙◌}
use Rattle.kit.specs.Answer.{number_of}
use Rattle.cruise.proofs.CruiseLaws.{number_answer}
use Rattle.cruise.proofs.cruise_test.Goals as goal

pub returns : goal.returns
returns c = c.number.ensures ∙ number_answer c.read_from.result ∙ ap number_of c.read_from.ensures
