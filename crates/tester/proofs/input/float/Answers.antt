use Rattle.std.proofs.Common.{sym}
use Rattle.std.specs.Float.Ieee.{of_bits}
use Rattle.std.proofs.lemmas.Float.{not_nan_f32_bits}
use lib.Ieee.{div}
use Rattle.tester.proofs.Floats.{no_number}
use Rattle.tester.proofs.input.float.Goals as goal

pub returns-then-bits-gt2139095040 : goal.returns-then-bits-gt2139095040
unfolding div of_bits
returns-then-bits-gt2139095040 c = sym (no_number _ c.if-bits-gt2139095040.true)

pub float_from_bits-result : goal.float_from_bits-result
float_from_bits-result c = not_nan_f32_bits _ c.if-bits-gt2139095040.false
