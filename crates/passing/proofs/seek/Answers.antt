use Rattle.std.proofs.Common.{◌+◌, ◌*◌, ◌^◌, ◌≤◌, ◌<◌, length, ◌∙◌, arith, rules}
use Rattle.passing.proofs.Parts.{no_refusal, seeking_begins, sought_few, seeking_again, seeking_found, seeking_ends}
use Rattle.passing.proofs.seek.Goals as goal
use Rattle.passing.proofs.seek.Goals.{In-Some, In_ok-ran}

-- the answers have room for a part
few : (c : In-Some) → length c.in-Some.part.now ≤ length c.loop-part.answers
few c = omega (arith, c.loop-part.invariant.0, c.in-Some.ensures.steps.1.1)

pub loop-part-init : goal.loop-part-init
loop-part-init c = (search rules, seeking_begins _ _ _ c.requires (search rules))

pub returns-in_err-ran : goal.returns-in_err-ran
returns-in_err-ran c =
    no_refusal _ _ _ _ _ c.loop-part.invariant.1.good (few (goal.at.returns-in_err-ran c).In-Some) _ c.in_err-ran.ensures.0

-- what is counted so far is no more than the words, of which there are few
sums : (c : In_ok-ran)
    → (c.loop-part.seconds + c.in_ok-ran.ran.seconds < 2 ^ 61) × (c.loop-part.before + c.in_ok-ran.ran.accepted + c.in_ok-ran.ran.refused < 2 ^ 61)
sums c =
    let sought = sought_few _ _ _ _ _ _ _ c.loop-part.invariant.1 _ _ _ c.in-Some.ensures.steps.1.0 (omega (arith, c.loop-part.invariant.0, c.in-Some.ensures.steps.1.1)) _ c.in_ok-ran.ensures.0 in
    let room : length c.args.words.now * 4 < 2 ^ 63 = search rules in
    (omega (arith, sought, room), omega (arith, sought, room))

pub overflow_add-seconds : goal.overflow_add-seconds
overflow_add-seconds c = record { fits = omega (arith, sums (goal.at.overflow_add-seconds c).In_ok-ran) }

pub overflow_add-passed : goal.overflow_add-passed
overflow_add-passed c = record { fits = omega (arith, sums (goal.at.overflow_add-passed c).In_ok-ran) }

pub overflow_add-passed-then-ran : goal.overflow_add-passed-then-ran
overflow_add-passed-then-ran c = record { fits = omega (arith, sums (goal.at.overflow_add-passed-then-ran c).In_ok-ran) }

pub returns-then-ran : goal.returns-then-ran
returns-then-ran c =
    let s = c.in-Some.ensures.steps.1 in
    seeking_found _ _ _ _ _ _ _ c.loop-part.invariant.1 _ _ _ s.0 (few (goal.at.returns-then-ran c).In-Some) _ c.in_ok-ran.ensures.0 c.if-ran.true

pub loop-part-preserved : goal.loop-part-preserved
loop-part-preserved c =
    let s = c.in-Some.ensures.steps in
    (s.0 ∙ c.loop-part.invariant.0, seeking_again _ _ _ _ _ _ _ c.loop-part.invariant.1 _ _ _ s.1.0 (few (goal.at.loop-part-preserved c).In-Some) _ c.in_ok-ran.ensures.0 c.if-ran.false)

pub returns-in_default : goal.returns-in_default
returns-in_default c = seeking_ends _ _ _ _ _ _ _ c.loop-part.invariant.1 c.in_default.ensures.steps.1.0
