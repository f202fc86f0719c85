-- Settings that make a car are permitted, so that no sum wraps.
use Rattle.std.proofs.Common.{◌≡◌, ◌<◌, ◌^◌, sym, ◌∙◌, arith, rules}
use Rattle.kit.specs.Answer.{refused}
use Rattle.event.specs.Refusal.{refusal_number, answer}
use Rattle.settings.specs.SettingsWord.{word_of}
use Rattle.settings.proofs.SettingsWordLaws.{made_permitted, made_written, refused_unwritten, word_fits}
use Rattle.settings.proofs.write.Goals as goal
use Rattle.settings.proofs.write.Goals.{In_ok-fresh}

pub returns-in_err-fresh : goal.returns-in_err-fresh
returns-in_err-fresh c =
    let e : answer c.from_residual.result ≡ refused (refusal_number c.in_err-fresh.field-0.0) = search rules in
    e ∙ sym (refused_unwritten _ _ _ _ (sym c.in_err-fresh.ensures))

-- the word holds all that it is put together of
fits : (c : In_ok-fresh) → word_of c.args.mode c.args.signs c.args.towing < 2 ^ 32
fits c = word_fits _ _ _ (made_permitted _ _ _ _ (sym c.in_ok-fresh.ensures))

pub overflow_add-result : goal.overflow_add-result
unfolding word_of
overflow_add-result c = omega (arith, fits (goal.at.overflow_add-result c).In_ok-fresh)

pub overflow_mul-result-2 : goal.overflow_mul-result-2
unfolding word_of
overflow_mul-result-2 c = omega (arith, fits (goal.at.overflow_mul-result-2 c).In_ok-fresh)

pub overflow_add-result-2 : goal.overflow_add-result-2
unfolding word_of
overflow_add-result-2 c = omega (arith, fits (goal.at.overflow_add-result-2 c).In_ok-fresh)

pub overflow_mul-result-3 : goal.overflow_mul-result-3
unfolding word_of
overflow_mul-result-3 c = omega (arith, fits (goal.at.overflow_mul-result-3 c).In_ok-fresh)

pub overflow_add-result-3 : goal.overflow_add-result-3
unfolding word_of
overflow_add-result-3 c = omega (arith, fits (goal.at.overflow_add-result-3 c).In_ok-fresh)

pub returns : goal.returns
unfolding word_of
returns c = sym (made_written _ _ _ _ (sym c.in_ok-fresh.ensures))
