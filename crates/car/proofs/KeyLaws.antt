-- Check 4, and then the kind's own checks: together the checks of an input.
-- Assumes nothing.
use Rattle.std.specs.Prelude.{Bool, true, false, ◌≡◌, refl, ℕ}
use Rattle.std.proofs.Common.{arith, ◌∙◌}
use Rattle.kit.specs.Pick.{pick}
use Rattle.event.specs.declared.Input.{Input}
use Rattle.checks.specs.Checks.{key_on}
use Rattle.car.specs.declared.Car.{Car}
use Rattle.car.specs.Checks.{own_check, input_check}
use Rattle.car.specs.LessonShape.{key_needed}

-- `p`: the kind needs the key on; `b`: the key is not on
off_first : (p b : Bool) (n own : ℕ) → n ≡ pick p (pick b 4 0) 0 → (n ≡ 0 → ⊥) → n ≡ pick p (pick b 4 own) own
unfolding pick
off_first true true n own e z = e
off_first true false n own e z = absurd (z e)
off_first false b n own e z = absurd (z e)

on_then : (p b : Bool) (own : ℕ) → ◌≡◌ {A = ℕ} (pick p (pick b 4 0) 0) 0 → own ≡ pick p (pick b 4 own) own
unfolding pick
on_then true true own h = absurd (omega (arith, h))
on_then true false own h = refl
on_then false b own h = refl

module _ (c : Car) (i : Input) (n : ℕ) where
  pub key_first : n ≡ key_needed c i → (n ≡ 0 → ⊥) → n ≡ input_check c i
  unfolding key_needed input_check key_on
  key_first e z = off_first _ _ n (own_check c i) e z

  pub key_then : key_needed c i ≡ 0 → n ≡ own_check c i → n ≡ input_check c i
  unfolding key_needed input_check key_on
  key_then z e = e ∙ on_then _ _ (own_check c i) z
