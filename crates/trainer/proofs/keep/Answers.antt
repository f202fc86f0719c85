use Rattle.std.proofs.Common.{◌≡◌, length, ap, ◌∙◌, rules}
use Rattle.std.proofs.Math.Nat.{min_comm}
use Rattle.std.proofs.lemmas.List.{take_min}
use Rattle.event.specs.Refusal.{refusal_number}
use Rattle.event.proofs.RefusalLaws.{number_pos}
use Rattle.record.specs.Record.{read_of}
use Rattle.trainer.specs.RecordCall.{keep_answer, read_back}
use Rattle.trainer.proofs.RecordCallLaws.{kept_answer, kept_refused, kept_read}
use Rattle.trainer.proofs.keep.Goals as goal

pub returns-in_err-write_into : goal.returns-in_err-write_into
returns-in_err-write_into c =
    let w = c.in_err-write_into.ensures in
    let e : keep_answer c.args.car c.from_residual.result ≡ record { car = c.args.car; refusal = refusal_number c.in_err-write_into.field-0.0 } = search rules in
    (e ∙ kept_refused _ _ _ w.0 (number_pos _ _ (λ i. refusal_number c.in_err-write_into.field-0.0)), w.1)

pub returns : goal.returns
returns c =
    let w = c.in_ok-write_into.ensures in
    let r = c.read_from.ensures ∙ rw (c.min-first.ensures, min_comm (length c.write_into.new.buffer) 12) (ap read_of (take_min 12 c.write_into.new.buffer)) in
    (kept_read _ _ _ _ _ w.0 (λ i. 0) w.1 (kept_answer _ _ ∙ ap (read_back c.args.car) r), w.1)
