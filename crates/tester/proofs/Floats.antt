-- The patterns of 32 bits that are no number.
-- Assumes nothing.
use Rattle.std.proofs.Common.{true, ◌≡◌, refl, sym, ◌∙◌, ℕ, ◌%◌, ◌<◌}
use Rattle.std.specs.Float.{binary32}
use Rattle.std.specs.Float.Ieee.{Float, nan, inf, fin, of_bits, is_nan}
use lib.Ieee.Bits.{nan_bits_is, nan_bits_above}
use Rattle.std.proofs.lemmas.Bool.{lt-ltb, false≢true}

no_number_is : (x : Float) → is_nan x ≡ true → x ≡ nan
unfolding is_nan
no_number_is nan h = refl
no_number_is (inf s) h = absurd (false≢true h)
no_number_is (fin s m e) h = absurd (false≢true h)

pub no_number : (b : ℕ) → 0x7f80_0000 < b % 0x8000_0000 → of_bits binary32 b ≡ nan
no_number b h = no_number_is (of_bits binary32 b) (sym (nan_bits_is binary32 b) ∙ nan_bits_above binary32 b ∙ lt-ltb _ _ h)
