-- Full pedal, full force (document 02, §3): "Full brake is then −60 and full gas 30", in each case of a that uses the pedal's term.
-- Assumes nothing.
use Rattle.std.specs.Prelude.{Bool, true, false, ◌≡◌, refl, ℕ, ◌<◌, eqb, pos, neg_ℤ}
use Rattle.std.proofs.Common.{ap, arith, eqb-true}
use Rattle.kit.specs.Bounds.{pedal_ceiling}
use Rattle.kit.specs.Pick.{pick, pick_case}
use Rattle.motion.specs.declared.Acceleration.{Acceleration}
use Rattle.motion.specs.Acceleration.{signed, speeding, slowing, brake_term, gas_term, braked, pulled, pushed, urged, towards, cruising}

-- "b > 0", at any speed above 0
pub full_brake_lem : (v : ℕ) → 0 < v → signed (braked pedal_ceiling v) ≡ neg_ℤ (pos 60)
unfolding signed slowing braked brake_term pick
full_brake_lem v h =
    pick_case (λ (a : Acceleration). signed a ≡ neg_ℤ (pos 60)) (eqb v 0) _ _ (λ t. absurd (omega (arith, eqb-true v 0 t))) (λ _. refl)

-- "C = 0", and gas above 90
pub full_gas_pulled : signed (pulled pedal_ceiling) ≡ pos 30
unfolding signed speeding pulled gas_term pick
full_gas_pulled = refl

-- "then a = .. min(30, max(g×30÷225, s))", at any speed, towards any X
full_of : (slows : Bool) (n : ℕ) → signed (urged pedal_ceiling (record { slows = slows; size = n })) ≡ pos 30
unfolding signed speeding pushed urged gas_term pick
full_of true n = refl
full_of false n = ap pos (omega arith)

pub full_gas_cruising : (v x : ℕ) → signed (cruising pedal_ceiling v x) ≡ pos 30
unfolding cruising signed speeding pushed urged gas_term pick
full_gas_cruising v x = full_of (towards v x).slows (towards v x).size
