-- Which settings make a car: document 01, "The car and a fresh one" and refusal 17, both ways.
-- Assumes nothing.
use Rattle.std.specs.Prelude.{Bool, ◌&&◌, ◌||◌, ◌⊎◌, ◌≡◌, ℕ, ◌≤◌, eqb}
use Rattle.std.proofs.Math.Bool.{true, false, not}
use Rattle.std.proofs.Common.{true≢false, inl, inr, arith, eqb-true, ltb-false}
use Rattle.std.proofs.Math.Path.{refl}
use Rattle.std.proofs.lemmas.Bool.{eqb-false}
use Rattle.std.proofs.Math.Dec.{ltb}
use Rattle.kit.specs.Answer.{Answer, gives, refused}
use Rattle.kit.specs.Pick.{pick_false, pick_case}
use Rattle.car.specs.declared.Car.{Car}
use Rattle.car.specs.Car.{fresh_car, settings_of, Permitted, check17, fresh_of}
use Rattle.car.specs.Good.{good_of}
use Rattle.car.proofs.GoodLaws.{fresh_good}

-- a number of at most 1
zero_one : (n : ℕ) → n ≤ 1 → (n ≡ 0) ⊎ (n ≡ 1)
zero_one n h = go (eqb n 0) refl
  where
    go : (t : Bool) → eqb n 0 ≡ t → (n ≡ 0) ⊎ (n ≡ 1)
    go true e = inl (eqb-true n 0 e)
    go false e = let z = eqb-false n 0 e in inr (omega arith)

-- and one that is 0 or 1 passes its test
flag_passes : (n : ℕ) → (n ≡ 0) ⊎ (n ≡ 1) → ltb 1 n ≡ false
flag_passes n (inl e) = rw e
flag_passes n (inr e) = rw e

module _ (mode signs towing : ℕ) where
  -- 17 holds of no permitted settings, and of all others
  passes : Permitted mode signs towing → check17 mode signs towing ≡ false
  unfolding check17
  passes p = go p.modes
    where
      go : (mode ≡ 1) ⊎ (mode ≡ 2) → (not (eqb mode 1) && not (eqb mode 2) || ltb 1 signs || ltb 1 towing) ≡ false
      go (inl m) = rw (m, flag_passes signs p.sign_flag, flag_passes towing p.towing_flag)
      go (inr m) = rw (m, flag_passes signs p.sign_flag, flag_passes towing p.towing_flag)

  pub passed : check17 mode signs towing ≡ false → Permitted mode signs towing
  unfolding check17
  passed = go (eqb mode 1) (eqb mode 2) (ltb 1 signs) refl refl refl
    where
      flag : (n : ℕ) → ltb 1 n ≡ false → (n ≡ 0) ⊎ (n ≡ 1)
      flag n h = zero_one n (ltb-false 1 n h)

      go : (p q r : Bool) → eqb mode 1 ≡ p → eqb mode 2 ≡ q → ltb 1 signs ≡ r → (not p && not q || r || ltb 1 towing) ≡ false → Permitted mode signs towing
      go true q false e f r h = record { modes = inl (eqb-true mode 1 e); sign_flag = flag signs r; towing_flag = flag towing h }
      go false true false e f r h = record { modes = inr (eqb-true mode 2 f); sign_flag = flag signs r; towing_flag = flag towing h }
      go true q true e f r h = absurd (true≢false h)
      go false true true e f r h = absurd (true≢false h)
      go false false r e f s h = absurd (true≢false h)

  -- permitted settings give the fresh car
  pub permitted_fresh : Permitted mode signs towing → fresh_of mode signs towing ≡ gives (fresh_car (settings_of mode signs towing))
  unfolding fresh_of
  permitted_fresh p = pick_false _ _ _ (passes p)

  -- and all else 17
  pub other_17 : (Permitted mode signs towing → ⊥) → fresh_of mode signs towing ≡ refused 17
  unfolding fresh_of
  other_17 n = pick_case (λ (a : Answer Car). a ≡ refused 17) (check17 mode signs towing) _ _ (λ t. refl) (λ t. absurd (n (passed t)))

  -- the fresh car of permitted settings is good
  pub permitted_good : Permitted mode signs towing → good_of (fresh_car (settings_of mode signs towing)) ≡ true
  unfolding settings_of
  permitted_good p = go p.modes
    where
      go : (mode ≡ 1) ⊎ (mode ≡ 2) → good_of (fresh_car (settings_of mode signs towing)) ≡ true
      go (inl m) = fresh_good _ (omega arith) (omega arith)
      go (inr m) = fresh_good _ (omega arith) (omega arith)
