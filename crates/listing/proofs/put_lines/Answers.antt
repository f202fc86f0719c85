use Rattle.std.proofs.Common.{◌≡◌, length, inl, inr, arith}
use Rattle.std.specs.Iterator.Adapters.{zip_first}
use Rattle.std.specs.Slice.Iter.{iter_rest}
use Rattle.listing.proofs.Answers.{lines_short, lines_fit, lines_past_lem, lines_few, lines_put}
use Rattle.listing.proofs.Going.{lines_begin, lines_next, lines_again, lines_end}
use Rattle.listing.proofs.put_lines.Goals as goal

pub returns-then-not-has_room : goal.returns-then-not-has_room
returns-then-not-has_room c = lines_short _ _ _ c.args.answers.now c.args.speeds.now c.has_room.ensures c.saturating_mul.ensures (omega arith) c.if-not-has_room.true

pub returns-then-is_none : goal.returns-then-is_none
returns-then-is_none c = lines_past_lem _ _ c.args.first c.args.answers.now c.args.speeds.now (grind arith)

pub returns-then-speeds-answers : goal.returns-then-speeds-answers
returns-then-speeds-answers c = lines_few _ _ _ c.args.answers.now c.args.speeds.now c.if-speeds-answers.true

pub loop-word-init : goal.loop-word-init
loop-word-init c =
    rw (c.into_iter-word-iterator.ensures.into_iter_gives, c.zip-word-items.ensures.first, c.iter.ensures.rest, c.zip-word-items.ensures.second.0)
    (lines_begin _ _ _ _ _ (lines_fit _ _ c.args.first _ c.args.speeds.now c.has_room.ensures c.saturating_mul.ensures (omega arith) c.if-not-has_room.false) (grind arith) c.if-speeds-answers.false)

pub put_line-end-requires : goal.put_line-end-requires
put_line-end-requires c = (lines_next _ _ _ _ _ c.loop-word.invariant c.in-Some.ensures.steps.0).0

pub overflow_add-number : goal.overflow_add-number
overflow_add-number c = omega (arith, (lines_next _ _ _ _ _ c.loop-word.invariant c.in-Some.ensures.steps.0).1)

pub loop-word-preserved : goal.loop-word-preserved
loop-word-preserved c = lines_again _ _ _ _ _ c.loop-word.invariant c.in-Some.ensures.steps.0 c.in-Some.ensures.steps.1 c.put_line-end.ensures

pub returns : goal.returns
returns c =
    let l = c.loop-word.invariant in
    let none : length (iter_rest (zip_first c.loop-word.word-iterator)) ≡ 0 = elim c.in-None.ensures.steps [ inl p ↦ p.1.0 | inr p ↦ omega (arith, p.1.0, l.enough) ] in
    let e = lines_end _ _ _ _ _ l none in
    lines_put c.args.out.now c.args.at c.args.first c.args.answers.now c.args.speeds.now l.fits l.last c.if-speeds-answers.false e.0 e.1
