use Rattle.std.proofs.Common.{sym, ◌∙◌, ◌≡◌, length, take, arith, length-take-le}
use Rattle.lever.specs.Fewest.{zeros}
use Rattle.lever.proofs.Seeking.{shortest_miss, shortest_hit, shortest_over}
use Rattle.lever.proofs.shortest.Goals as goal

pub returns-then-seek : goal.returns-then-seek
returns-then-seek c =
    let k = c.loop-count.count in
    let n : length (take k zeros) ≡ k = length-take-le k zeros (omega (arith, c.loop-count-test.true)) in
    let e = rw n at c.seek.ensures in
    rw e.1 (shortest_hit c.args.goal c.args.desired k _ c.loop-count.invariant c.loop-count-test.true (take k zeros) (sym e.0 ∙ c.if-seek.true))

pub loop-count-preserved : goal.loop-count-preserved
loop-count-preserved c =
    let k = c.loop-count.count in
    let n : length (take k zeros) ≡ k = length-take-le k zeros (omega (arith, c.loop-count-test.true)) in
    let e = rw n at c.seek.ensures in
    shortest_miss c.args.goal c.args.desired k _ c.loop-count.invariant c.loop-count-test.true (sym e.0 ∙ c.if-seek.false)

pub returns : goal.returns
returns c = shortest_over c.args.goal c.args.desired c.loop-count.count _ c.loop-count.invariant c.loop-count-test.false
