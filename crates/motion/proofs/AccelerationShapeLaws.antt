-- Laws of the code a + 60: what the code does with it is what document 01 does with a.
-- Assumes nothing.
use Rattle.std.specs.Prelude.{Bool, true, false, ◌≡◌, refl, ℕ, ◌+◌, ◌-◌, ◌*◌, ◌/◌, ◌≤◌, ◌<◌, min, max, eqb, ltb}
use Rattle.std.proofs.Common.{sym, ◌∙◌}
use native.Mathlib.Omega.{arith}
use borrow.Author.Tests.{lt-ltb, le-ltb, ltb-false}
use Rattle.kit.specs.Bounds.{speed_ceiling, full_brake, full_gas}
use Rattle.kit.specs.Pick.{pick, pick_true, pick_false, pick_case}
use Rattle.motion.specs.declared.Acceleration.{Acceleration}
use Rattle.motion.specs.Acceleration.{speeding, slowing, gas_term, pulled, backed_off, eased, towards, pushed, urged, cruising, acceleration_code}
use Rattle.motion.proofs.AccelerationLaws.{towards_small}
use Rattle.motion.specs.AccelerationShape.{decoded, strived, urged_code, moved_by}
use Rattle.motion.specs.Speed.{change, moved}

pub code_speeding : (n : ℕ) → acceleration_code (speeding n) ≡ 60 + n
unfolding acceleration_code speeding pick
code_speeding n = refl

pub code_slowing : (n : ℕ) → acceleration_code (slowing n) ≡ 60 - n
unfolding acceleration_code slowing
code_slowing n =
    pick_case (λ (k : ℕ). k ≡ 60 - n) (ltb 0 n) _ _ (λ t. refl) (λ t. let z = ltb-false 0 n t in omega arith)

-- backed off, by the code
pub backed_moving : (v : ℕ) → 0 < v → 30 ≡ acceleration_code (backed_off v)
unfolding backed_off
backed_moving v h = rw (pick_true _ (slowing 30) (speeding 0) (lt-ltb 0 v h)) (sym (code_slowing 30))

pub backed_still : (v : ℕ) → v ≤ 0 → 60 ≡ acceleration_code (backed_off v)
unfolding backed_off
backed_still v h = rw (pick_false _ (slowing 30) (speeding 0) (le-ltb 0 v h)) (sym (code_speeding 0))

pub ruleset backing = (backed_moving, backed_still)

-- a code's acceleration
module _ (n : ℕ) (h : n ≤ 60) where
  decoded_slows : 1 ≤ n → decoded (60 - n) ≡ record { slows = true; size = n }
  unfolding decoded
  decoded_slows l = let e = lt-ltb (60 - n) 60 (omega arith) in let f : (60 - (60 - n)) + ((60 - n) - 60) ≡ n = omega arith in cc

  decoded_speeds : decoded (60 + n) ≡ record { slows = false; size = n }
  unfolding decoded
  decoded_speeds = let e = le-ltb (60 + n) 60 (omega arith) in let f : (60 - (60 + n)) + ((60 + n) - 60) ≡ n = omega arith in cc

pub decoded_is : (slows : Bool) (n : ℕ) → n ≤ 60 → (slows ≡ true → 1 ≤ n)
    → decoded (acceleration_code (record { slows = slows; size = n })) ≡ record { slows = slows; size = n }
unfolding acceleration_code pick
decoded_is true n h l = decoded_slows n h (l refl)
decoded_is false n h l = decoded_speeds n h

-- ---- the rules by codes
pub towards_below : (v x : ℕ) → v < x → speeding (min 10 (strived ((v - x) + (x - v)))) ≡ towards v x
unfolding towards eased strived
towards_below v x h =
    let e : (v - x) + (x - v) ≡ x - v = omega arith in
    rw (e, pick_true _ _ _ (lt-ltb v x h))

pub towards_above : (v x : ℕ) → x < v → slowing (min 30 (strived ((v - x) + (x - v)))) ≡ towards v x
unfolding towards eased strived
towards_above v x h =
    let e : (v - x) + (x - v) ≡ v - x = omega arith in
    rw (e, pick_false _ _ _ (le-ltb v x (omega arith)), pick_true _ _ _ (lt-ltb x v h))

pub towards_at : (v x : ℕ) → v ≡ x → speeding 0 ≡ towards v x
unfolding towards
towards_at v x e = rw e (sym (pick_false _ _ _ same ∙ pick_false _ _ _ same))
  where
    same : ltb x x ≡ false
    same = le-ltb x x (omega arith)

urged_is : (term n : ℕ) (t slows : Bool) → n ≤ pick slows full_brake full_gas
    → pick t (acceleration_code (record { slows = slows; size = n })) (max (60 + min 30 term) (acceleration_code (record { slows = slows; size = n })))
    ≡ acceleration_code (pick t (record { slows = slows; size = n }) (pushed term (record { slows = slows; size = n })))
unfolding acceleration_code pushed speeding pick
urged_is term n true slows h = refl
urged_is term n false true h = omega arith
urged_is term n false false h = omega arith

pub cruising_code : (g v x : ℕ) → urged_code g (acceleration_code (towards v x)) ≡ acceleration_code (cruising g v x)
unfolding cruising urged urged_code acceleration_code pushed pulled speeding pick
cruising_code g v x = urged_is (gas_term g) (towards v x).size (eqb g 0) (towards v x).slows (towards_small v x)

moved_is : (v n : ℕ) (slows : Bool) → n ≤ 60
    → moved_by v (acceleration_code (record { slows = slows; size = n })) ≡ moved v (change (record { slows = slows; size = n }))
unfolding moved_by acceleration_code moved change pick
moved_is v n true h =
    let e : 60 - (60 - n) ≡ n = omega arith in
    pick_case (λ (k : ℕ). min speed_ceiling k ≡ min speed_ceiling (v - n * 36 / 10)) (ltb (60 - n) 60) _ _
    (λ t. rw e)
    (λ t. let l = ltb-false (60 - n) 60 t in let z : n ≡ 0 = omega arith in rw z (omega arith))
moved_is v n false h =
    let e : (60 + n) - 60 ≡ n = omega arith in
    rw (le-ltb (60 + n) 60 (omega arith), e)

pub moved_code : (v : ℕ) (a : Acceleration) → a.size ≤ 60 → moved_by v (acceleration_code a) ≡ moved v (change a)
unfolding moved_by acceleration_code moved change pick
moved_code v a h = moved_is v a.size a.slows h
