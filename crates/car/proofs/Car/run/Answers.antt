use Rattle.std.proofs.Common.{◌≡◌, false, ◌∙◌, rules}
use Rattle.event.specs.Refusal.{refusal_number}
use Rattle.car.specs.Mark.{run_answer, unran}
use Rattle.car.proofs.Lessons.{run_18, run_19, run_ran}
use Rattle.car.proofs.Car.run.Goals as goal

pub returns-in_err-good : goal.returns-in_err-good
unfolding unran
returns-in_err-good c =
    let k = c.in_err-good.ensures.err in
    let e : run_answer c.args.self c.from_residual.result ≡ record { car = c.args.self; accepted = 0; refused = 0; seconds = 0; found = false; refusal = refusal_number c.in_err-good.field-0.0 } = search rules in
    let l = run_18 c.args.halt c.args.mark c.args.self c.args.words.now c.args.answers.now k.1 in
    (e ∙ rw k.0 l.0, l.1)

pub returns-then-answers-words : goal.returns-then-answers-words
unfolding unran
returns-then-answers-words c =
    run_19 c.args.halt c.args.mark c.args.self c.args.words.now c.args.answers.now c.in_ok-good.ensures.ok.1 c.if-answers-words.true

pub returns : goal.returns
returns c =
    let k = c.in_ok-good.ensures.ok in
    let t = rw k.0 at c.teach.ensures in
    run_ran c.args.halt c.args.mark c.args.self c.args.words.now c.args.answers.now _ _ k.1 c.if-answers-words.false t.0 t.1
