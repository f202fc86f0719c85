-- A copy from the car that settings make is the copy from the settings: such a car is good.
-- Assumes nothing.
use Rattle.std.specs.Prelude.{Bool, List, ℕ}
use Rattle.std.proofs.Math.Bool.{true, false}
use Rattle.std.proofs.Math.Path.{◌≡◌, refl}
use Rattle.std.proofs.Common.{◌∙◌}
use Rattle.kit.specs.Answer.{gives}
use Rattle.kit.specs.Pick.{pick, pick_true}
use Rattle.car.specs.declared.Car.{Car}
use Rattle.car.specs.Good.{good_of}
use Rattle.copy.specs.Copy.{Copied, Part, too_short, written, unwritten, started_copy, started_buffer, copied_part, uncopied_part, part_of, part_buffer}

module _ (c : Car) (g : good_of c ≡ true) (ws buffer : List ℕ) where
  pub started_part : (p : Part) → p ≡ part_of c ws buffer → ◌≡◌ {A = Copied} (record { written = p.written; refusal = p.refusal }) (started_copy (gives c) ws buffer)
  unfolding part_of started_copy copied_part uncopied_part written unwritten pick
  started_part p e = rw (e, g) (go (too_short c ws buffer))
    where
      go : (short : Bool)
          → ◌≡◌ {A = Copied} (record { written = (pick short (uncopied_part c 19) (copied_part c ws)).written; refusal = (pick short (uncopied_part c 19) (copied_part c ws)).refusal })
          (pick short (unwritten 19) (written c ws))
      go true = refl
      go false = refl

  pub started_buffer_lem : (after : List ℕ) → after ≡ part_buffer c ws buffer → after ≡ started_buffer (gives c) ws buffer
  unfolding part_buffer started_buffer
  started_buffer_lem after e = e ∙ pick_true _ _ _ g
