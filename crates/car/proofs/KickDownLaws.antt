-- Foot down while too close: document 02, §8. The list `KickDown` is complete: the cars whose a differs from that of the rule before are those of the
-- list, and no others, good or not. What a is on them, and that the brake goes first.
-- Assumes nothing.
use Rattle.std.specs.Prelude.{Bool, true, false, ◌↔◌, not, ◌≡◌, refl, ◌≤◌, eqb, ltb}
use Rattle.std.proofs.Common.{sym, ◌∙◌, arith, eqb-true, ltb-true, ltb-false}
use Rattle.kit.specs.Pick.{pick, picks, parts}
use Rattle.motion.specs.declared.Acceleration.{Acceleration}
use Rattle.motion.specs.Acceleration.{speeding, braked, pulled, backed_off, cruising}
use Rattle.motion.proofs.KickDownLaws.{cruising_pulled, pulled_backed}
use Rattle.car.specs.declared.Car.{Car}
use Rattle.car.specs.Acceleration.{target_of, acceleration_of, KickDown}
use Rattle.car.specs.Distance.{ahead, within, close}

-- ---- the rule before, in which close went first and gas above 90 had no case of its own. It stands here alone, for the comparison.
unfoldable pub acceleration_before : Car → Acceleration
acceleration_before c =
    pick (not (eqb c.key 2)) (speeding 0)
    (pick (ltb 0 c.pedals.brake) (braked c.pedals.brake c.speed)
    (pick (not c.cruise.on) (pulled c.pedals.gas)
    (pick (close c) (backed_off c.speed)
    (cruising c.pedals.gas c.speed (target_of c)))))

-- ---- two choices with the same cases in front
behind : (key brake cruise : Bool) (a0 a1 a2 x y : Acceleration)
    → (pick (not key) a0 (pick brake a1 (pick (not cruise) a2 x)) ≡ pick (not key) a0 (pick brake a1 (pick (not cruise) a2 y)) → ⊥)
    → (key ≡ true) × (brake ≡ false) × (cruise ≡ true) × (x ≡ y → ⊥)
unfolding pick
behind false brake cruise a0 a1 a2 x y n = absurd (n refl)
behind true true cruise a0 a1 a2 x y n = absurd (n refl)
behind true false false a0 a1 a2 x y n = absurd (n refl)
behind true false true a0 a1 a2 x y n = (refl, refl, refl, n)

-- a case put in front of another, where it gives what the last one gives
in_front : (gas near : Bool) (p b x : Acceleration) → (gas ≡ true → x ≡ p) → (pick near b x ≡ pick gas p (pick near b x) → ⊥)
    → (gas ≡ true) × (near ≡ true)
unfolding pick
in_front false near p b x h n = absurd (n refl)
in_front true false p b x h n = absurd (n (h refl))
in_front true true p b x h n = (refl, refl)

module _ (c : Car) where
  -- "Goes first" is after key and brake: with the brake down gas above 90 changes nothing
  pub brake_first : c.key ≡ 2 → 1 ≤ c.pedals.brake → braked c.pedals.brake c.speed ≡ acceleration_of c
  unfolding acceleration_of
  brake_first k h = search picks

  -- ---- the cars of the list
  kick_close : KickDown c → close c ≡ true
  unfolding close within ahead
  kick_close k = search picks

  kick_before : KickDown c → backed_off c.speed ≡ acceleration_before c
  unfolding acceleration_before
  kick_before k = let b : c.pedals.brake ≤ 0 = omega (arith, k.brake) in let f = kick_close k in search picks

  -- "a is then min(30, gas term)"
  pub kick_down : KickDown c → pulled c.pedals.gas ≡ acceleration_of c
  unfolding acceleration_of
  kick_down k = let b : c.pedals.brake ≤ 0 = omega (arith, k.brake) in search picks

  -- ---- and no others
  listed : (acceleration_before c ≡ acceleration_of c → ⊥) → KickDown c
  unfolding acceleration_before acceleration_of close within ahead
  listed n =
      let o = behind (eqb c.key 2) (ltb 0 c.pedals.brake) c.cruise.on _ _ _ _ _ n in
      let i = in_front (ltb 90 c.pedals.gas) (close c) _ _ _ (λ t. cruising_pulled c.pedals.gas c.speed (target_of c) (ltb-true _ _ t)) o.3 in
      record {
        key = eqb-true _ _ o.0;
        brake = (let z = ltb-false 0 c.pedals.brake o.1 in omega arith);
        cruise = o.2;
        mode = search parts;
        range_low = search parts;
        range = search parts;
        near = search parts;
        gas = ltb-true _ _ i.0;
      }

  pub changed_exactly : (acceleration_before c ≡ acceleration_of c → ⊥) ↔ KickDown c
  changed_exactly = (listed, λ k e. pulled_backed c.pedals.gas c.speed k.gas (kick_before k ∙ e ∙ sym (kick_down k)))
