use Rattle.std.proofs.Common.{◌≡◌, ◌∙◌, rules}
use Rattle.event.specs.Refusal.{refusal_number, number}
use Rattle.car.specs.Drive.{step_of}
use Rattle.car.proofs.Driving.{car_is, refusal_is, step_keeps, tick_kept, took_due, took_undue}
use Rattle.car.proofs.checked.GoodCar.drive_tick.Goals as goal
use Rattle.car.proofs.checked.GoodCar.drive_tick.Goals.{Joined-due, then-due, else-due}

pub returns-in_err-check_tick-clause-refusal : goal.returns-in_err-check_tick-clause-refusal
returns-in_err-check_tick-clause-refusal c =
    let n : number c.from_residual.result ≡ refusal_number c.in_err-check_tick.field-0.0 = search rules in
    n ∙ refusal_is (tick_kept _ _ c.requires.1 _ c.test_due-due.ensures _ c.in_err-check_tick.ensures)

pub returns-in_err-check_tick-clause-car : goal.returns-in_err-check_tick-clause-car
returns-in_err-check_tick-clause-car c = car_is (tick_kept _ _ c.requires.1 _ c.test_due-due.ensures _ c.in_err-check_tick.ensures)

-- the car after it, with the radar tested or not
went : (c : Joined-due) → step_of c.args.self.now.car c.args.word ≡ record { car = c.if-due.car; refusal = 0 }
went c =
    let d = c.test_due-due.ensures in
    let k = c.in_ok-check_tick.ensures in
    elim c.if-due.branch [
      | then-due w ↦ rw w.car-is (took_due _ _ c.requires.1 _ d k _ c.moved.ensures _ c.tick-car.ensures w.if-due.true _ w.tick_ready.ensures _ w.test_radar-car.ensures)
      | else-due w ↦ rw w.car-is (took_undue _ _ c.requires.1 _ d k _ c.moved.ensures _ c.tick-car.ensures w.if-due.false)
    ]

pub invariant_of-self : goal.invariant_of-self
invariant_of-self c = record { good = rw (car_is (went (goal.at.invariant_of-self c).Joined-due)) (step_keeps _ _ c.args.self.now.good) }

pub returns-clause-refusal : goal.returns-clause-refusal
returns-clause-refusal c = refusal_is (went (goal.at.returns-clause-refusal c).Joined-due)

pub returns-clause-car : goal.returns-clause-car
returns-clause-car c = car_is (went (goal.at.returns-clause-car c).Joined-due)
