use Rattle.std.proofs.Common.{◌≡◌, sym, ap, ◌∙◌, rules}
use Rattle.std.specs.Prelude.{Option}
use Rattle.kit.specs.Answer.{gives, refused}
use Rattle.event.specs.declared.Event.{Event}
use Rattle.event.specs.Refusal.{refusal_number, answer}
use Rattle.sighting.specs.SightingShape.{written}
use Rattle.sighting.proofs.SightingShapeLaws.{word_written}
use Rattle.sighting.proofs.radar_word.Goals as goal

pub returns-in_err-try_from-in-Some : goal.returns-in_err-try_from-in-Some
unfolding written
returns-in_err-try_from-in-Some c =
    let e : answer c.from_residual-in_err-try_from-in-Some.result ≡ refused (refusal_number c.in_err-try_from-in-Some.field-0.0) = search rules in
    e ∙ ap written c.in_err-try_from-in-Some.ensures ∙ word_written _ _ (sym c.in_ok-event.ensures ∙ ap (λ (x : Option Event). gives x) c.in-Some.is)

pub returns-in_ok-try_from-in-Some : goal.returns-in_ok-try_from-in-Some
unfolding written
returns-in_ok-try_from-in-Some c = ap written c.in_ok-try_from-in-Some.ensures ∙ word_written _ _ (sym c.in_ok-event.ensures ∙ ap (λ (x : Option Event). gives x) c.in-Some.is)
