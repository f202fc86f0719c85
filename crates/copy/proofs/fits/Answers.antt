-- That the answers have room for a part stands here three times: as a lemma over `In-Some`, as in `write`, it is not proved at this loop's goals.
use Rattle.std.proofs.Common.{◌≤◌, length, ◌∙◌, arith}
use Rattle.copy.proofs.Parts.{no_refusal, counting_short, counting_again, counting_ends}
use Rattle.copy.proofs.fits.Goals as goal

pub returns-in_err-taught : goal.returns-in_err-taught
returns-in_err-taught c =
    let few : length c.in-Some.part.now ≤ length c.loop-part.answers = omega (arith, c.loop-part.invariant.0, c.in-Some.ensures.steps.1.1) in
    no_refusal _ _ _ c.loop-part.invariant.1.good few _ c.in_err-taught.ensures.0

pub returns-then-left-taught : goal.returns-then-left-taught
returns-then-left-taught c =
    let s = c.in-Some.ensures.steps.1 in
    let few : length c.in-Some.part.now ≤ length c.loop-part.answers = omega (arith, c.loop-part.invariant.0, s.1) in
    counting_short _ _ _ _ _ _ _ c.loop-part.invariant.1 _ _ _ s.0 few _ c.in_ok-taught.ensures.0 c.if-left-taught.true

pub loop-part-preserved : goal.loop-part-preserved
loop-part-preserved c =
    let s = c.in-Some.ensures.steps in
    let few : length c.in-Some.part.now ≤ length c.loop-part.answers = omega (arith, c.loop-part.invariant.0, s.1.1) in
    (s.0 ∙ c.loop-part.invariant.0, counting_again _ _ _ _ _ _ _ c.loop-part.invariant.1 _ _ _ s.1.0 few _ c.in_ok-taught.ensures.0 c.if-left-taught.false)

pub returns-in-None : goal.returns-in-None
returns-in-None c =
    let g = c.loop-part.invariant.1 in
    counting_ends _ _ _ _ _ _ _ g (omega (arith, g.ahead_is, c.in-None.ensures.steps.1.0))

pub returns-then-ahead-left : goal.returns-then-ahead-left
returns-then-ahead-left c = counting_ends _ _ _ _ _ _ _ c.loop-part.invariant.1 c.if-ahead-left.true
