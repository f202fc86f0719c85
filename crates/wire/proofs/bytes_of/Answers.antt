use Rattle.std.proofs.Common.{◌∙◌, sym}
use Rattle.kit.specs.Placed.{placed_nothing}
use Rattle.wire.specs.Wire.{bytes_of}
use Rattle.wire.proofs.Putting.{put_again, put_all}
use Rattle.wire.proofs.bytes_of.Goals as goal

pub loop-i-init : goal.loop-i-init
unfolding bytes_of
loop-i-init c = sym (placed_nothing _ 0)

pub loop-i-preserved : goal.loop-i-preserved
loop-i-preserved c = put_again _ _ c.min-count.ensures _ _ c.loop-i.invariant c.loop-i-test.true (c.copy_from_slice.ensures.after ∙ c.to_le_bytes.ensures)

pub returns : goal.returns
returns c = put_all _ _ c.min-count.ensures _ _ c.loop-i.invariant c.loop-i-test.false
