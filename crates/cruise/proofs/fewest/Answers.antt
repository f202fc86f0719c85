use Rattle.std.proofs.Common.{◌≡◌, rules}
use Rattle.event.specs.Refusal.{refusal_number}
use Rattle.lever.specs.Fewest.{moves_answer, turned_away}
use Rattle.cruise.specs.Cruise.{moves_left}
use Rattle.cruise.proofs.fewest.Goals as goal

pub returns-in_err-read_from : goal.returns-in_err-read_from
unfolding moves_left
returns-in_err-read_from c =
    let e : moves_answer c.from_residual.result ≡ turned_away (refusal_number c.in_err-read_from.field-0.0) = search rules in
    rw (← c.in_err-read_from.ensures) e

pub returns : goal.returns
unfolding moves_left
returns c = rw (← c.in_ok-read_from.ensures) c.fewest.ensures
