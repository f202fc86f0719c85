use Rattle.std.proofs.Common.{arith}
use Rattle.listing.specs.Listing.{ascii}
use Rattle.exercise.specs.Exercise.{head_text}
use Rattle.exercise.proofs.Turning.{text_put}
use Rattle.exercise.proofs.put_head.Goals as goal

pub returns : goal.returns
unfolding ascii head_text
returns c = let e = text_put _ 46 head_text (omega (arith, c.requires)) c.put_text.ensures in (e.0, omega (arith, e.0), e.1)
