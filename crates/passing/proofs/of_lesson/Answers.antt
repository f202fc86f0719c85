use Rattle.std.proofs.Common.{◌*◌, ◌^◌, ◌<◌, length, sym, ◌∙◌, arith, rules}
use Rattle.passing.proofs.Parts.{no_refusal_behind, sum_few, marked_all}
use Rattle.passing.proofs.of_lesson.Goals as goal

pub returns-in_err-rest : goal.returns-in_err-rest
returns-in_err-rest c = no_refusal_behind _ _ _ (sym c.good.ensures ∙ c.if-not-good.false) _ c.in_ok-find.ensures _ c.unwrap_or-from.ensures _ c.in_err-rest.ensures

pub overflow_add-result : goal.overflow_add-result
overflow_add-result c =
    let few = sum_few _ _ _ (sym c.good.ensures ∙ c.if-not-good.false) _ c.in_ok-find.ensures _ c.unwrap_or-from.ensures _ c.in_ok-rest.ensures in
    let room : length c.args.words.now * 4 < 2 ^ 63 = search rules in
    record { fits = omega (arith, few, room) }

pub returns : goal.returns
returns c = marked_all _ _ _ (sym c.good.ensures ∙ c.if-not-good.false) _ c.in_ok-find.ensures _ c.unwrap_or-from.ensures _ c.in_ok-rest.ensures
