use Rattle.std.proofs.Common.{rules}
use Rattle.tester.proofs.Filling.{filled}
use Rattle.tester.proofs.input.fill.Goals as goal

pub returns : goal.returns
returns c = filled _ _ c.args.into.now _ _ _ c.rest-from.ensures c.min-count.ensures (c.fill.ensures.after (λ y e. search rules)) c.copy_from_slice.ensures.after
