use Rattle.std.proofs.Common.{◌*◌, ◌^◌, ◌≤◌, ◌<◌, length, ◌∙◌, arith, rules}
use Rattle.passing.proofs.Parts.{no_refusal, counted_few, counting_again, counting_ends}
use Rattle.passing.proofs.count.Goals as goal
use Rattle.passing.proofs.count.Goals.{In-Some}

-- the answers have room for a part
few : (c : In-Some) → length c.in-Some.part.now ≤ length c.loop-part.answers
few c = omega (arith, c.loop-part.invariant.0, c.in-Some.ensures.steps.1.1)

pub returns-in_err-ran : goal.returns-in_err-ran
returns-in_err-ran c =
    no_refusal _ _ _ _ _ c.loop-part.invariant.1.good (few (goal.at.returns-in_err-ran c).In-Some) _ c.in_err-ran.ensures.0

pub overflow_add-seconds : goal.overflow_add-seconds
overflow_add-seconds c =
    let s = c.in-Some.ensures.steps.1 in
    let counted = counted_few _ _ _ _ _ _ c.loop-part.invariant.1 _ _ _ s.0 (few (goal.at.overflow_add-seconds c).In-Some) _ c.in_ok-ran.ensures.0 in
    let room : length c.args.words.now * 4 < 2 ^ 63 = search rules in
    record { fits = omega (arith, counted, room) }

pub loop-part-preserved : goal.loop-part-preserved
loop-part-preserved c =
    let s = c.in-Some.ensures.steps in
    (s.0 ∙ c.loop-part.invariant.0, counting_again _ _ _ _ _ _ c.loop-part.invariant.1 _ _ _ s.1.0 (few (goal.at.loop-part-preserved c).In-Some) _ c.in_ok-ran.ensures.0)

pub returns : goal.returns
returns c = counting_ends _ _ _ _ _ _ c.loop-part.invariant.1 c.requires c.in-None.ensures.steps.1.0
