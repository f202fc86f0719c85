use Rattle.std.proofs.Common.{◌≡◌, ◌∙◌, rules}
use Rattle.event.specs.Refusal.{refusal_number, number}
use Rattle.event.proofs.RefusalLaws.{number_pos}
use Rattle.record.proofs.Answers.{save_no, save_short, save_yes}
use Rattle.record.proofs.write_into.Goals as goal

pub returns-in_err-words : goal.returns-in_err-words
returns-in_err-words c =
    let n : number c.from_residual.result ≡ refusal_number c.in_err-words.field-0.0 = search rules in
    let s = save_no _ c.args.buffer.now _ c.in_err-words.ensures (number_pos _ _ (λ i. refusal_number c.in_err-words.field-0.0)) in
    (n ∙ s.0, s.1)

pub returns-then-buffer-lt12 : goal.returns-then-buffer-lt12
returns-then-buffer-lt12 c = save_short _ c.args.buffer.now _ c.in_ok-words.ensures (λ i. 0) c.if-buffer-lt12.true

pub returns : goal.returns
returns c = save_yes _ c.args.buffer.now _ c.in_ok-words.ensures _ (λ i. 0) c.if-buffer-lt12.false c.copy_from_slice.ensures.after
