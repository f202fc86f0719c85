use Rattle.std.proofs.Common.{◌≡◌, ap, ◌∙◌, rules}
use Rattle.event.specs.Refusal.{refusal_number}
use Rattle.record.specs.RecordLesson.{lesson_answer, as_lesson}
use Rattle.record.proofs.RecordLessonLaws.{left_lesson}
use Rattle.record.proofs.lesson.Goals as goal

pub returns-in_err-run : goal.returns-in_err-run
returns-in_err-run c =
    let e : lesson_answer c.from_residual.result c.run.new.words c.run.new.answers
    ≡ record { refusal = refusal_number c.in_err-run.field-0.0; words = c.run.new.words; answers = c.run.new.answers; accepted = 0; refused = 0 } = search rules in
    e ∙ ap as_lesson c.in_err-run.ensures ∙ left_lesson _ _ c.args.words.now _ c.args.events.now c.args.answers.now

pub returns : goal.returns
returns c = rw c.from.ensures (ap as_lesson c.in_ok-run.ensures ∙ left_lesson _ _ c.args.words.now _ c.args.events.now c.args.answers.now)
