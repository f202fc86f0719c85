use Rattle.std.proofs.Common.{◌≡◌, true, false, refl, sym, ap, ◌∙◌, rules}
use Rattle.event.specs.Refusal.{refusal_number}
use Rattle.event.proofs.RefusalLaws.{number_pos}
use Rattle.record.specs.Layout.{unpacked}
use Rattle.record.specs.Record.{read_of}
use Rattle.car.specs.Lesson.{Taught}
use Rattle.record.specs.RecordLesson.{words_left, run_answer}
use Rattle.record.proofs.LayoutLaws.{unpacked_fits}
use Rattle.record.proofs.RecordLaws.{same_self}
use Rattle.record.proofs.RecordLessonLaws.{ran_fits, left_kept, left_ran, left_written, left_unwritten, left_marked, left_unread}
use Rattle.record.proofs.Answers.{equal, read_other, read_length, no_array}
use Rattle.record.proofs.run.Goals as goal
use Rattle.record.proofs.run.Goals.{then-ran-least, else-ran-least}

pub returns-in_default : goal.returns-in_default
returns-in_default c = left_unread _ _ _ c.args.words.now c.args.events.now c.args.answers.now (read_length _ (λ e. no_array _ (c.try_from.ensures.0 e) c.in_default.not-Ok))

pub pack-requires : goal.pack-requires
pack-requires c = rw c.unpack-held.ensures (unpacked_fits _)

pub returns-then-ne : goal.returns-then-ne
returns-then-ne c =
    let s = c.in-Ok.ensures.1.same in
    left_unread _ _ _ c.args.words.now c.args.events.now c.args.answers.now (read_other _ _ _ c.unpack-held.ensures c.pack.ensures (sym c.ne.ensures ∙ c.if-ne.true) ∙ ap read_of s)

pub returns-in_err-ran : goal.returns-in_err-ran
returns-in_err-ran c =
    let s = c.in-Ok.ensures.1.same in
    let p = equal _ _ _ c.unpack-held.ensures c.pack.ensures (sym c.ne.ensures ∙ c.if-ne.false) ∙ s in
    let e : run_answer c.from_residual.result c.args.words.now c.run.new.answers
    ≡ record { refusal = refusal_number c.in_err-ran.field-0.0; words = c.args.words.now; answers = c.run.new.answers; accepted = 0; refused = 0; seconds = 0; found = false } = search rules in
    e ∙ rw (c.in_err-ran.ensures.1, c.offered.ensures) (left_kept _ _ _ c.args.events.now c.args.answers.now _ _ _ (number_pos _ _ refl) (rw c.offered.ensures at c.in_err-ran.ensures.0))
    ∙ left_marked _ _ _ _ c.args.events.now c.args.answers.now _ true (c.unpack-held.ensures ∙ ap unpacked s) (sym (rw p (same_self _))) refl

pub pack-requires-then-ran-least : goal.pack-requires-then-ran-least
pack-requires-then-ran-least c = ran_fits _ _ _ c.args.events.now c.args.answers.now _ c.in_ok-ran.ensures.0 (λ i. 0)

pub returns : goal.returns
returns c =
    let s = c.in-Ok.ensures.1.same in
    let p = equal _ _ _ c.unpack-held.ensures c.pack.ensures (sym c.ne.ensures ∙ c.if-ne.false) ∙ s in
    let t : Taught = record { car = c.in_ok-ran.ran.car; accepted = c.in_ok-ran.ran.accepted; refused = c.in_ok-ran.ran.refused; refusal = 0 } in
    let left : c.if-ran-least.words ≡ words_left c.args.least c.args.words.now t =
    elim c.if-ran-least.branch [
      | then-ran-least w ↦ w.words-is ∙ w.copy_from_slice.ensures.after ∙ w.pack-then-ran-least.ensures ∙ left_written _ _ t refl w.if-ran-least.true
      | else-ran-least w ↦ w.words-is ∙ left_unwritten _ _ t refl w.if-ran-least.false
    ] in
    rw (c.from.ensures, c.in_ok-ran.ensures.1, c.offered.ensures)
    (left_ran _ _ _ c.args.events.now c.args.answers.now _ (rw c.offered.ensures at c.in_ok-ran.ensures.0) (λ i. 0) _ _ _ left)
    ∙ left_marked _ _ _ _ c.args.events.now c.args.answers.now _ true (c.unpack-held.ensures ∙ ap unpacked s) (sym (rw p (same_self _))) refl
