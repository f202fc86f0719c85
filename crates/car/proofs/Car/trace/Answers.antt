use Rattle.std.proofs.Common.{◌≡◌, ◌∙◌, rules}
use Rattle.event.specs.Refusal.{refusal_number}
use Rattle.car.specs.Lesson.{lesson_answer, trace_short, untaught}
use Rattle.car.proofs.Lessons.{trace_18, trace_19, trace_room, trace_ran}
use Rattle.car.proofs.Car.trace.Goals as goal

pub returns-in_err-good : goal.returns-in_err-good
unfolding untaught
returns-in_err-good c =
    let k = c.in_err-good.ensures.err in
    let e : lesson_answer c.args.self c.from_residual.result ≡ record { car = c.args.self; accepted = 0; refused = 0; refusal = refusal_number c.in_err-good.field-0.0 } = search rules in
    let l = trace_18 _ c.args.words.now c.args.answers.now c.args.speeds.now k.1 in
    (e ∙ rw k.0 l.0, l.1, l.2)

pub returns-then-answers-words : goal.returns-then-answers-words
unfolding trace_short untaught
returns-then-answers-words c =
    trace_19 _ c.args.words.now c.args.answers.now c.args.speeds.now c.in_ok-good.ensures.ok.1 c.if-answers-words.true

pub returns : goal.returns
unfolding trace_short
returns c =
    let k = c.in_ok-good.ensures.ok in
    let t = rw k.0 at c.teach.ensures in
    let s = c.if-answers-words.false in
    let r = trace_room c.args.words.now c.args.answers.now c.args.speeds.now s in
    let l = trace_ran _ c.args.words.now c.args.answers.now c.args.speeds.now _ _ _ _ k.1 s r.0 r.1 t.0 t.1 t.2 in
    (rw c.from.ensures l.0, l.1, l.2)
