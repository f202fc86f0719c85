use Rattle.std.proofs.Common.{◌≡◌, sym, ◌∙◌, rules}
use Rattle.event.specs.Refusal.{refusal_number, number}
use Rattle.car.proofs.DriveLaws.{input_unread, input_taken}
use Rattle.car.proofs.Driving.{car_is, refusal_is, step_keeps, input_kept}
use Rattle.car.proofs.checked.GoodCar.drive_input.Goals as goal

pub returns-in_err-input-clause-refusal : goal.returns-in_err-input-clause-refusal
returns-in_err-input-clause-refusal c =
    let n : number c.from_residual.result ≡ refusal_number c.in_err-input.field-0.0 = search rules in
    n ∙ refusal_is (input_unread _ _ c.requires _ (sym c.in_err-input.ensures))

pub returns-in_err-input-clause-car : goal.returns-in_err-input-clause-car
returns-in_err-input-clause-car c = car_is (input_unread _ _ c.requires _ (sym c.in_err-input.ensures))

pub returns-in_err-check-clause-refusal : goal.returns-in_err-check-clause-refusal
returns-in_err-check-clause-refusal c =
    let n : number c.from_residual-in_err-check.result ≡ refusal_number c.in_err-check.field-0.0 = search rules in
    n ∙ refusal_is (input_kept _ _ c.requires _ (sym c.in_ok-input.ensures) _ c.in_err-check.ensures)

pub returns-in_err-check-clause-car : goal.returns-in_err-check-clause-car
returns-in_err-check-clause-car c = car_is (input_kept _ _ c.requires _ (sym c.in_ok-input.ensures) _ c.in_err-check.ensures)

pub invariant_of-self : goal.invariant_of-self
invariant_of-self c =
    let e = c.next-self.ensures ∙ car_is (input_taken _ _ c.requires _ (sym c.in_ok-input.ensures) (sym c.in_ok-check.ensures)) in
    record { good = rw e (step_keeps _ _ c.args.self.now.good) }

pub returns-clause-refusal : goal.returns-clause-refusal
returns-clause-refusal c = refusal_is (input_taken _ _ c.requires _ (sym c.in_ok-input.ensures) (sym c.in_ok-check.ensures))

pub returns-clause-car : goal.returns-clause-car
returns-clause-car c = c.next-self.ensures ∙ car_is (input_taken _ _ c.requires _ (sym c.in_ok-input.ensures) (sym c.in_ok-check.ensures))
