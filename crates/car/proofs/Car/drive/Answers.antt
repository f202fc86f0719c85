use Rattle.std.proofs.Common.{◌≡◌, ◌∙◌, rules}
use Rattle.event.specs.Refusal.{refusal_number}
use Rattle.car.specs.Drive.{drive_answer}
use Rattle.car.proofs.Driving.{bad, driven_alone, refused_alone}
use Rattle.car.proofs.Car.drive.Goals as goal
use Rattle.car.proofs.Car.drive.Goals.{then-is_tick+in_ok-drive_tick, else-is_tick+in_ok-drive_input}

pub returns-in_err-good : goal.returns-in_err-good
returns-in_err-good c =
    let k = c.in_err-good.ensures.err in
    let n : drive_answer c.args.self c.from_residual.result ≡ record { car = c.args.self; refusal = refusal_number c.in_err-good.field-0.0 } = search rules in
    n ∙ rw k.0 (bad _ _ k.1)

pub returns-in_err-drive_tick : goal.returns-in_err-drive_tick
returns-in_err-drive_tick c =
    let k = c.in_ok-good.ensures.ok in
    let n : drive_answer c.args.self c.from_residual-in_err-drive_tick.result ≡ record { car = c.args.self; refusal = refusal_number c.in_err-drive_tick.field-0.0 } = search rules in
    n ∙ refused_alone _ _ _ k.1 (rw k.0 at c.in_err-drive_tick.ensures.refusal)

pub returns-in_err-drive_input : goal.returns-in_err-drive_input
returns-in_err-drive_input c =
    let k = c.in_ok-good.ensures.ok in
    let n : drive_answer c.args.self c.from_residual-in_err-drive_input.result ≡ record { car = c.args.self; refusal = refusal_number c.in_err-drive_input.field-0.0 } = search rules in
    n ∙ refused_alone _ _ _ k.1 (rw k.0 at c.in_err-drive_input.ensures.refusal)

pub returns : goal.returns
returns c =
    let k = c.in_ok-good.ensures.ok in
    elim c.if-is_tick.branch [
      | then-is_tick+in_ok-drive_tick w ↦ driven_alone _ _ _ _ k.1 (rw k.0 at w.in_ok-drive_tick.ensures.refusal) (rw w.good-is (rw k.0 at w.in_ok-drive_tick.ensures.car))
      | else-is_tick+in_ok-drive_input w ↦ driven_alone _ _ _ _ k.1 (rw k.0 at w.in_ok-drive_input.ensures.refusal) (rw w.good-is (rw k.0 at w.in_ok-drive_input.ensures.car))
    ]
