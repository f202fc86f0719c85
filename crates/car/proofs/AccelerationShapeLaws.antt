-- How the code works with the acceleration of a car: by its code a + 60, and by the cases of a good car in another order. It is a.
-- Assumes nothing.
use Rattle.std.specs.Prelude.{Bool, ◌&&◌, ◌≡◌, ℕ, ◌≤◌, ◌<◌, leb}
use Rattle.std.proofs.Math.Bool.{true, false}
use Rattle.std.proofs.Math.Path.{refl}
use Rattle.std.proofs.Common.{ap, sym, ◌∙◌, arith, eqb-true, leb-true, leb-false}
use Rattle.std.proofs.lemmas.Bool.{eqb-false}
use Rattle.std.proofs.Math.Dec.{eqb}
use Rattle.kit.specs.Pick.{picks, and_l, and_r, and_next, either}
use Rattle.motion.specs.Acceleration.{speeding, gas_term, braked, pulled, backed_off, cruising, acceleration_code}
use Rattle.motion.specs.AccelerationShape.{decoded, moved_by}
use Rattle.motion.proofs.AccelerationShapeLaws.{decoded_is, moved_code}
use Rattle.motion.proofs.KickDownLaws.{cruising_pulled}
use Rattle.motion.specs.Speed.{change, moved}
use Rattle.car.specs.declared.Car.{Car}
use Rattle.car.specs.Acceleration.{target_of, acceleration_of}
use Rattle.car.proofs.AccelerationLaws.{acceleration_size, acceleration_signed}
use Rattle.car.proofs.KickDownLaws.{brake_first}
use Rattle.car.specs.Distance.{close}
use Rattle.car.specs.Standing.{Ranges, Off, Good}

pub decoded_code : (c : Car) → Ranges c → decoded (acceleration_code (acceleration_of c)) ≡ acceleration_of c
decoded_code c r =
    decoded_is (acceleration_of c).slows (acceleration_of c).size (acceleration_size c r) (acceleration_signed c)

-- ---- the acceleration of a good car, case by case: with cruise on the key is on and b = 0, with the key not on b = g = 0
on_test : (c : Car) → Good c → (Off c → ⊥) → eqb c.key 2 ≡ true
on_test c g n = go (eqb c.key 2) refl
  where
    go : (t : Bool) → eqb c.key 2 ≡ t → t ≡ true
    go true e = refl
    go false e = absurd (n (g.off (eqb-false _ _ e)))

pulled_off : (c : Car) → Off c → pulled c.pedals.gas ≡ speeding 0
unfolding pulled speeding gas_term
pulled_off c o = rw o.gas

module _ (c : Car) (g : Good c) where
  pub braked_case : 0 < c.pedals.brake → braked c.pedals.brake c.speed ≡ acceleration_of c
  braked_case h = brake_first c (eqb-true _ _ (on_test c g (λ o. omega (arith, o.brake)))) h

  pub pulled_case : c.pedals.brake ≤ 0 → c.cruise.on ≡ false → pulled c.pedals.gas ≡ acceleration_of c
  unfolding acceleration_of
  pulled_case h f = go (eqb c.key 2) refl
    where
      go : (t : Bool) → eqb c.key 2 ≡ t → pulled c.pedals.gas ≡ acceleration_of c
      go true k = search picks
      go false k = pulled_off c (g.off (eqb-false _ _ k)) ∙ search picks

  cruise_key : c.cruise.on ≡ true → eqb c.key 2 ≡ true
  cruise_key e = on_test c g (λ o. let z : ◌≡◌ {A = ℕ} 0 1 = cc o.cruise in omega arith)

  pub close_case : c.cruise.on ≡ true → (leb c.pedals.gas 90 && close c) ≡ true → backed_off c.speed ≡ acceleration_of c
  unfolding acceleration_of
  close_case e f =
      let k = cruise_key e in
      let h : c.pedals.brake ≤ 0 = omega (arith, (g.cruise_on e).brake) in
      let l : c.pedals.gas ≤ 90 = leb-true _ _ (and_l (leb c.pedals.gas 90) (close c) f) in
      let n = and_r (leb c.pedals.gas 90) (close c) f in
      search picks

  -- not close, or kick-down: gas above 90 gives more than any s
  pub cruising_case : c.cruise.on ≡ true → (leb c.pedals.gas 90 && close c) ≡ false → cruising c.pedals.gas c.speed (target_of c) ≡ acceleration_of c
  unfolding acceleration_of
  cruising_case e f =
      let k = cruise_key e in
      let h : c.pedals.brake ≤ 0 = omega (arith, (g.cruise_on e).brake) in
      either (leb c.pedals.gas 90)
      (λ t. let l : c.pedals.gas ≤ 90 = leb-true _ _ t in let n = sym (and_next _ (close c) t) ∙ f in search picks)
      (λ t. let l : 90 < c.pedals.gas = leb-false _ _ t in cruising_pulled c.pedals.gas c.speed (target_of c) l ∙ search picks)

-- v after a second by the code
pub moved_of : (c : Car) (code : ℕ) → Ranges c → code ≡ acceleration_code (acceleration_of c) → moved_by c.speed code ≡ moved c.speed (change (acceleration_of c))
moved_of c code r e = ap (moved_by c.speed) e ∙ moved_code c.speed (acceleration_of c) (acceleration_size c r)
