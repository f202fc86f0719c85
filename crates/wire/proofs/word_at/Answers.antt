use Rattle.wire.proofs.Filling.{word_read}
use Rattle.wire.proofs.word_at.Goals as goal

pub returns : goal.returns
returns c = word_read _ _ c.in-Some.ensures.lookup.0.2 c.in-Some-first_chunk.ensures.cases c.from_le_bytes.ensures
