use Rattle.std.proofs.Common.{refl, sym, arith, length-take-le}
use Rattle.cleaning.proofs.Turning.{undone, not_good, written_le, cleaned}
use Rattle.cleaning.proofs.clean_words.Goals as goal

pub returns-in_default : goal.returns-in_default
returns-in_default c = undone _ _ (not_good _ _ _ c.requires.0 refl _ c.in_default.ensures.0) c.nothing_done.ensures

pub slice_bounds-accepted-end : goal.slice_bounds-accepted-end
slice_bounds-accepted-end c = omega (arith, written_le _ _ _ c.requires.0 refl _ c.in-Ok.ensures.0)

pub slice_bounds-bytes_of-end : goal.slice_bounds-bytes_of-end
slice_bounds-bytes_of-end c = sym (length-take-le _ _ (omega (arith, written_le _ _ _ c.requires.0 refl _ c.in-Ok.ensures.0)))

pub returns : goal.returns
returns c = let t = c.in-Ok.ensures in cleaned _ _ _ c.requires.0 refl _ t.0 _ c.requires.1 t.1 c.bytes_of.ensures
