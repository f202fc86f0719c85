use Rattle.std.proofs.Common.{refl, sym, ◌∙◌}
use Rattle.lever.specs.FewestShape.{seek_of}
use Rattle.lever.proofs.Seeking.{ok_number, err_number, seek_end, seek_more, left_none, try_skip, try_miss, try_hit, try_over}
use Rattle.lever.proofs.+seek.Goals as goal
use Rattle.lever.proofs.+seek.Goals.{else-is_ok-via-then-is_ok+else-seek, else-is_ok-via-else-is_ok}

pub returns-in_default : goal.returns-in_default
returns-in_default t c = seek_end c.args.goal c.args.words.now c.args.position c.args.desired c.in_default.ensures.cases

pub loop-next-init : goal.loop-next-init
loop-next-init t c = (seek_more c.args.goal _ _ _ _ c.in-Some.ensures.cases.1, refl, refl)

pub returns-then-seek : goal.returns-then-seek
returns-then-seek t c =
    let g = c.args.goal in
    let n = c.loop-next in
    let h = try_hit g.ceiling (seek_of g _) c.args.position c.args.desired n.next _ c.loop-next-test.true n.invariant.0
    (sym c.up_down_check.ensures ∙ ok_number _ c.if-is_ok.ensures.value) _ c.moved.ensures c.args.words.now n.rest (sym c.if-seek.ensures.0) in
    (h.0, rw c.seek.ensures.1 h.1)

pub loop-next-preserved : goal.loop-next-preserved
loop-next-preserved t c =
    let g = c.args.goal in
    let n = c.loop-next in
    elim c.else-is_ok.branch [
      | else-is_ok-via-then-is_ok+else-seek w ↦
          let none = left_none _ n.rest (sym w.if-seek.ensures.0) in
          let same = w.rest-is ∙ w.seek.ensures.1 ∙ none in
          let miss = try_miss g.ceiling (seek_of g _) c.args.position c.args.desired n.next _ c.loop-next-test.true n.invariant.0
          (sym c.up_down_check.ensures ∙ ok_number _ w.if-is_ok.ensures.value) _ w.moved.ensures (sym w.if-seek.ensures.0) in
          (rw same miss, same ∙ n.invariant.1, n.invariant.2)
      | else-is_ok-via-else-is_ok w ↦
          let skip = try_skip g.ceiling (seek_of g _) c.args.position c.args.desired n.next _ c.loop-next-test.true n.invariant.0
          (λ z. err_number _ w.if-is_ok.ensures.value (c.up_down_check.ensures ∙ z)) in
          (rw w.rest-is skip, w.rest-is ∙ n.invariant.1, n.invariant.2)
    ]

pub returns : goal.returns
returns t c =
    let g = c.args.goal in
    let n = c.loop-next in
    let o = try_over g.ceiling (seek_of g _) c.args.position c.args.desired n.next _ c.args.words.now c.loop-next-test.false n.invariant.0 in
    (o.0, rw (n.invariant.2, n.invariant.1) (sym c.in-Some.ensures.cases.0 ∙ o.1))
