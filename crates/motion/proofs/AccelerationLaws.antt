-- The band of the acceleration, up and down apart, and of a second's change; the sign is the signed number's own.
-- Assumes nothing.
use Rattle.std.specs.Prelude.{Bool, true, false, ◌≡◌, ℕ, ◌≤◌, ◌*◌, ◌/◌, ltb}
use Rattle.std.proofs.Common.{true≢false, sym, arith, ltb-true, ltb-false}
use Rattle.kit.specs.Bounds.{pedal_ceiling, full_brake, full_gas, most_rise, most_fall}
use Rattle.kit.specs.Pick.{pick, pick_le, le_pick, pick_case}
use Rattle.motion.specs.declared.Acceleration.{Acceleration}
use Rattle.motion.specs.Acceleration.{speeding, slowing, brake_term, gas_term, braked, pulled, backed_off, eased, towards, pushed, urged, cruising}
use Rattle.motion.specs.Speed.{change}

-- ---- a size within the band of its sign
abbrev pub Banded : ℕ → ℕ → Acceleration → Type 0
Banded down up a = a.size ≤ pick a.slows down up

pub banded_le : (down up k : ℕ) (a : Acceleration) → Banded down up a → down ≤ k → up ≤ k → a.size ≤ k
banded_le down up k a h d u = omega (arith, pick_le a.slows down up k d u)

abbrev Small : Acceleration → Type 0
Small a = Banded full_brake full_gas a

pub speeding_small : (n : ℕ) → n ≤ full_gas → Small (speeding n)
unfolding speeding pick
speeding_small n h = h

slowing_small : (n : ℕ) → n ≤ full_brake → Small (slowing n)
unfolding slowing
slowing_small n h = pick_case (λ (k : ℕ). n ≤ k) (ltb 0 n) _ _ (λ _. h) (λ t. let z = ltb-false 0 n t in omega arith)

pub brake_term_le : (b : ℕ) → b ≤ pedal_ceiling → brake_term b ≤ full_brake
unfolding brake_term
brake_term_le b h = omega arith

pub gas_term_le : (g : ℕ) → g ≤ pedal_ceiling → gas_term g ≤ full_gas
unfolding gas_term
gas_term_le g h = omega arith

pub braked_small : (b v : ℕ) → b ≤ pedal_ceiling → Small (braked b v)
unfolding braked
braked_small b v h = pick_case Small _ _ _ (λ _. speeding_small 0 (omega arith)) (λ _. slowing_small _ (brake_term_le b h))

pub pulled_small : (g : ℕ) → Small (pulled g)
unfolding pulled
pulled_small g = speeding_small _ (omega arith)

pub backed_off_small : (v : ℕ) → Small (backed_off v)
unfolding backed_off
backed_off_small v = pick_case Small _ _ _ (λ _. slowing_small _ (omega arith)) (λ _. speeding_small 0 (omega arith))

pub towards_small : (v x : ℕ) → Small (towards v x)
unfolding towards eased
towards_small v x =
    pick_case Small _ _ _ (λ _. speeding_small _ (omega arith))
    (λ _. pick_case Small _ _ _ (λ _. slowing_small _ (omega arith)) (λ _. speeding_small 0 (omega arith)))

pushed_small : (term : ℕ) (s : Acceleration) → Small (pushed term s)
unfolding pushed
pushed_small term s = pick_case Small _ _ _ (λ _. speeding_small _ (omega arith)) (λ _. speeding_small _ (omega arith))

pub cruising_small : (g v x : ℕ) → Small (cruising g v x)
unfolding cruising urged
cruising_small g v x = pick_case Small _ _ _ (λ _. towards_small v x) (λ _. pushed_small _ (towards v x))

-- a second's change
change_of : (slows : Bool) (n : ℕ) → n ≤ pick slows full_brake full_gas → n * 36 / 10 ≤ pick slows most_fall most_rise
unfolding pick
change_of true n h = omega arith
change_of false n h = omega arith

pub change_small : (a : Acceleration) → Small a → Banded most_fall most_rise (change a)
unfolding change
change_small a h = change_of a.slows a.size h

pub change_none : Banded 0 0 (change (speeding 0))
unfolding change speeding
change_none = le_pick false 0 0 0 (omega arith) (omega arith)

-- ---- a slows only where its size is above 0, so the sign and size are the signed number's own
abbrev pub Signed : Acceleration → Type 0
Signed a = a.slows ≡ true → 1 ≤ a.size

pub speeding_signed : (n : ℕ) → Signed (speeding n)
unfolding speeding
speeding_signed n e = absurd (true≢false (sym e))

slowing_signed : (n : ℕ) → Signed (slowing n)
unfolding slowing
slowing_signed n e = ltb-true 0 n e

pub braked_signed : (b v : ℕ) → Signed (braked b v)
unfolding braked
braked_signed b v = pick_case Signed _ _ _ (λ _. speeding_signed 0) (λ _. slowing_signed _)

pub pulled_signed : (g : ℕ) → Signed (pulled g)
unfolding pulled
pulled_signed g = speeding_signed _

pub backed_off_signed : (v : ℕ) → Signed (backed_off v)
unfolding backed_off
backed_off_signed v = pick_case Signed _ _ _ (λ _. slowing_signed _) (λ _. speeding_signed 0)

towards_signed : (v x : ℕ) → Signed (towards v x)
unfolding towards
towards_signed v x =
    pick_case Signed _ _ _ (λ _. speeding_signed _) (λ _. pick_case Signed _ _ _ (λ _. slowing_signed _) (λ _. speeding_signed 0))

pub cruising_signed : (g v x : ℕ) → Signed (cruising g v x)
unfolding cruising urged pushed
cruising_signed g v x =
    pick_case Signed _ _ _ (λ _. towards_signed v x)
    (λ _. pick_case Signed _ _ _ (λ _. speeding_signed _) (λ _. speeding_signed _))
