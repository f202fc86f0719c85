use Rattle.wire.proofs.Filling.{fill_more, fill_all}
use Rattle.wire.proofs.words_of.Goals as goal

pub loop-i-preserved : goal.loop-i-preserved
loop-i-preserved c = fill_more _ _ c.as_chunks.ensures.front c.as_chunks.ensures.front_len c.min-count.ensures _ _ c.loop-i.invariant c.loop-i-test.true c.from_le_bytes.ensures

pub returns : goal.returns
returns c = fill_all _ _ c.as_chunks.ensures.front c.as_chunks.ensures.front_len c.min-count.ensures _ _ c.loop-i.invariant c.loop-i.auto.i-end c.loop-i-test.false
