use Rattle.std.proofs.Common.{◌≡◌, rules}
use Rattle.event.specs.Refusal.{refusal_number}
use Rattle.cruise.specs.Cruise.{mark_found, mark_left}
use Rattle.cruise.proofs.CruiseLaws.{marked_found}
use Rattle.cruise.proofs.marked.Goals as goal

pub returns-in_err-read_from : goal.returns-in_err-read_from
unfolding mark_left
returns-in_err-read_from c =
    let e : mark_found c.from_residual.result ≡ record { refusal = refusal_number c.in_err-read_from.field-0.0; event = 0; seconds = 0 } = search rules in
    rw (← c.in_err-read_from.ensures) e

pub returns : goal.returns
returns c = rw (← c.in_ok-read_from.ensures) (marked_found _ _ c.args.words.now _ c.of_lesson.ensures)
