use Rattle.std.proofs.Common.{◌≡◌, rules, arith, sym, ◌∙◌}
use Rattle.event.specs.Refusal.{refusal_number, number}
use Rattle.event.proofs.RefusalLaws.{number_range}
use Rattle.car.proofs.KeyLaws.{key_first, key_then}
use Rattle.car.proofs.Car.check.Goals as goal

pub returns-in_err-check_key : goal.returns-in_err-check_key
returns-in_err-check_key _ c =
    let n : number c.from_residual.result ≡ refusal_number c.in_err-check_key.field-0.0 = search rules in
    n ∙ key_first _ _ _ c.in_err-check_key.ensures (λ z. omega (arith, z, number_range c.in_err-check_key.field-0.0))

pub returns : goal.returns
returns _ c = key_then _ _ _ (sym c.in_ok-check_key.ensures) c.own_check.ensures
