use Rattle.std.proofs.Common.{◌≡◌, ap, ◌∙◌, rules}
use Rattle.event.specs.Refusal.{refusal_number}
use Rattle.car.specs.Lesson.{lesson_answer}
use Rattle.car.specs.Mark.{as_taught}
use Rattle.car.proofs.MarkLaws.{run_whole, after_whole}
use Rattle.car.proofs.Car.lesson.Goals as goal

pub returns-in_err-run : goal.returns-in_err-run
returns-in_err-run c =
    let e : lesson_answer c.args.self c.from_residual.result ≡ record { car = c.args.self; accepted = 0; refused = 0; refusal = refusal_number c.in_err-run.field-0.0 } = search rules in
    (e ∙ ap as_taught c.in_err-run.ensures.0 ∙ run_whole _ c.args.words.now 0 c.args.answers.now, c.in_err-run.ensures.1 ∙ after_whole _ c.args.words.now c.args.answers.now)

pub returns : goal.returns
returns c =
    let r = c.in_ok-run.ensures in
    (rw c.from.ensures (ap as_taught r.0 ∙ run_whole _ c.args.words.now 0 c.args.answers.now), r.1 ∙ after_whole _ c.args.words.now c.args.answers.now)
