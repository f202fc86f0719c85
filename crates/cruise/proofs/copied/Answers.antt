use Rattle.std.proofs.Common.{◌≡◌, refl, sym, ◌∙◌, rules}
use Rattle.event.specs.Refusal.{refusal_number}
use Rattle.settings.proofs.SettingsWordLaws.{started_good}
use Rattle.copy.specs.Copy.{copy_answer, started_copy, unwritten, started_buffer}
use Rattle.copy.proofs.CopyLaws.{started_part, started_buffer_lem}
use Rattle.cruise.proofs.copied.Goals as goal

pub returns-in_err-car : goal.returns-in_err-car
unfolding started_copy unwritten started_buffer
returns-in_err-car c =
    let e : copy_answer c.from_residual.result ≡ record { written = 0; refusal = refusal_number c.in_err-car.field-0.0 } = search rules in
    rw (← c.in_err-car.ensures) (e, refl)

pub returns-in_err-part : goal.returns-in_err-part
returns-in_err-part c =
    let f = sym c.in_ok-car.ensures in
    let g = started_good _ _ f in
    let e : copy_answer c.from_residual-in_err-part.result ≡ record { written = 0; refusal = refusal_number c.in_err-part.field-0.0 } = search rules in
    rw f (e ∙ started_part _ g _ _ _ c.in_err-part.ensures.0, started_buffer_lem _ g _ _ _ c.in_err-part.ensures.1)

pub returns : goal.returns
returns c =
    let f = sym c.in_ok-car.ensures in
    let g = started_good _ _ f in
    rw f (started_part _ g _ _ _ c.in_ok-part.ensures.0, started_buffer_lem _ g _ _ _ c.in_ok-part.ensures.1)
