use Rattle.std.proofs.Common.{subst, sym, ap, ◌∙◌}
use Rattle.std.specs.Prelude.{T}
use Rattle.std.specs.Float.{binary32}
use lib.Ieee.Bits.{of_bits-to_bits}
use Rattle.sighting.specs.SightingShape.{whole_of}
use Rattle.sighting.proofs.whole.of_float.Goals as goal

pub returns : goal.returns
returns c = c.of_bits.ensures ∙ ap (whole_of c.args.factor.times) (of_bits-to_bits binary32 c.args.x (subst T (sym c.well_formed.0.1) tt))
