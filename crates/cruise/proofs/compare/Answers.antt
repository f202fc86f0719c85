use Rattle.std.proofs.Common.{◌≡◌, false, refl, ap, rules}
use Rattle.std.specs.Result.{result_unwrap_or}
use Rattle.kit.specs.Answer.{number_of}
use Rattle.kit.specs.Pick.{pick}
use Rattle.event.specs.Words.{bit_of}
use Rattle.event.specs.Refusal.{refusal_number, number}
use Rattle.cruise.specs.Cruise.{alike_refusal, alike_answer}
use Rattle.cruise.proofs.compare.Goals as goal

pub returns-in_err-first : goal.returns-in_err-first
unfolding alike_refusal alike_answer bit_of pick
returns-in_err-first c =
    let n : number c.from_residual.result ≡ refusal_number c.in_err-first.field-0.0 = search rules in
    let b : result_unwrap_or c.from_residual.result false ≡ false = search rules in
    rw (← c.in_err-first.ensures) (n, rw b refl)

pub returns-in_err-second : goal.returns-in_err-second
unfolding alike_refusal alike_answer number_of bit_of pick
returns-in_err-second c =
    let n : number c.from_residual-in_err-second.result ≡ refusal_number c.in_err-second.field-0.0 = search rules in
    let b : result_unwrap_or c.from_residual-in_err-second.result false ≡ false = search rules in
    rw (← c.in_ok-first.ensures, ← c.in_err-second.ensures) (n, rw b refl)

pub returns : goal.returns
unfolding alike_refusal alike_answer number_of
returns c = rw (← c.in_ok-first.ensures, ← c.in_ok-second.ensures) (refl, ap bit_of c.alike.ensures)
