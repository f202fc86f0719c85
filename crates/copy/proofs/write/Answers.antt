use Rattle.std.proofs.Common.{◌*◌, ◌^◌, ◌≤◌, ◌<◌, length, ◌∙◌, arith, rules}
use Rattle.copy.proofs.Parts.{no_refusal, writing_begins, put_room, written_few, writing_again, writing_ends}
use Rattle.copy.proofs.write.Goals as goal
use Rattle.copy.proofs.write.Goals.{In-Some}

-- the answers have room for a part
few : (c : In-Some) → length c.in-Some.part.now ≤ length c.loop-part.answers
few c = omega (arith, c.loop-part.invariant.0, c.in-Some.ensures.steps.1.1)

pub loop-part-init : goal.loop-part-init
loop-part-init c = (search rules, writing_begins _ _ _ c.requires.1 c.requires.0 (search rules))

pub returns-in_err-taught : goal.returns-in_err-taught
returns-in_err-taught c =
    no_refusal _ _ _ c.loop-part.invariant.1.good (few (goal.at.returns-in_err-taught c).In-Some) _ c.in_err-taught.ensures.0

pub put-requires : goal.put-requires
put-requires c =
    let s = c.in-Some.ensures.steps.1 in
    let t = c.in_ok-taught.ensures in
    put_room _ _ _ c.requires.1 _ _ _ _ c.loop-part.invariant.1 _ _ _ _ s.0 (few (goal.at.put-requires c).In-Some) _ t.0 t.1

pub overflow_add-written : goal.overflow_add-written
overflow_add-written c =
    let s = c.in-Some.ensures.steps.1 in
    let t = c.in_ok-taught.ensures in
    let written = written_few _ _ _ c.requires.1 _ _ _ _ c.loop-part.invariant.1 _ _ _ _ s.0 (few (goal.at.overflow_add-written c).In-Some) _ t.0 t.1 in
    let room : length c.loop-part.copy * 4 < 2 ^ 63 = search rules in
    record { fits = omega (arith, written, room) }

pub loop-part-preserved : goal.loop-part-preserved
loop-part-preserved c =
    let s = c.in-Some.ensures.steps in
    let t = c.in_ok-taught.ensures in
    (s.0 ∙ c.loop-part.invariant.0, writing_again _ _ _ c.requires.1 _ _ _ _ c.loop-part.invariant.1 _ _ _ _ s.1.0 (few (goal.at.loop-part-preserved c).In-Some) _ t.0 t.1 c.put.ensures)

pub returns : goal.returns
returns c = writing_ends _ _ _ c.requires.1 _ _ _ _ c.loop-part.invariant.1 c.in-None.ensures.steps.1.0
