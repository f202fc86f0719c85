use native.Mathlib.Nat.{div-div-eq-div-mul}
use Rattle.record.specs.Layout.{car_of, unpacked}
use Rattle.record.proofs.layout.unpack.Goals as goal

pub returns : goal.returns
unfolding unpacked car_of
returns c = simp div-div-eq-div-mul
