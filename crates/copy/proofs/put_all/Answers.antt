use Rattle.std.proofs.Common.{sym}
use Rattle.kit.specs.Placed.{placed_nothing}
use Rattle.copy.proofs.Parts.{all_again, all_ends}
use Rattle.copy.proofs.put_all.Goals as goal

pub loop-i-init : goal.loop-i-init
loop-i-init c = sym (placed_nothing _ _)

pub loop-i-preserved : goal.loop-i-preserved
loop-i-preserved c = all_again _ _ _ c.requires _ c.loop-i-test.true c.loop-i.invariant

pub returns : goal.returns
returns c = all_ends _ _ _ c.requires c.loop-i-test.false c.loop-i.invariant
