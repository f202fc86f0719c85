use Rattle.cruise.proofs.CruiseLaws.{event_or_0}
use Rattle.cruise.proofs.cruise_mark.Goals as goal

pub returns-in-Ok : goal.returns-in-Ok
returns-in-Ok c = rw (c.unwrap_or.ensures, event_or_0 c.in-Ok.marked.passed) c.in-Ok.ensures
