use Rattle.std.proofs.Common.{sym}
use Rattle.cruise.proofs.CruiseLaws.{refusal_first, see_refusal}
use Rattle.cruise.proofs.cruise_see.Goals as goal

pub returns-in-Err : goal.returns-in-Err
returns-in-Err c =
    rw (c.from.ensures, c.unwrap_or.ensures, c.err.ensures.value, refusal_first c.read_from.result c.in-Err.refusal _ c.read_from.ensures)
    (see_refusal _ _ _ (sym c.in-Err.ensures))
