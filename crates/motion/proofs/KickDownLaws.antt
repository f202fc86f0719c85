-- Foot down while too close (document 02, §8), over plain numbers: gas above 90 gives more than any s, so that with no car too close a is the same
-- whether it goes first or not; and it gives another a than close.
-- Assumes nothing.
use Rattle.std.specs.Prelude.{Bool, true, false, ◌≡◌, refl, ℕ, ◌≤◌, ◌<◌, min, pos, ◌≤ℤ◌, ltb}
use Rattle.std.proofs.Common.{true≢false, ap, arith, le→leb, ne_eqb, ltb-false}
use Rattle.kit.specs.Pick.{pick, pick_case}
use Rattle.motion.specs.declared.Acceleration.{Acceleration}
use Rattle.motion.specs.Acceleration.{signed, speeding, slowing, gas_term, pulled, backed_off, eased, towards, pushed, urged, cruising}

gas_above_90 : (g : ℕ) → 90 < g → 12 ≤ gas_term g
unfolding gas_term
gas_above_90 g h = omega arith

-- an s that does not slow is at most 10
abbrev Up : Acceleration → Type 0
Up s = s.slows ≡ false → s.size ≤ 10

towards_up : (v x : ℕ) → Up (towards v x)
unfolding towards eased speeding slowing
towards_up v x =
    pick_case Up (ltb v x) _ _ (λ _ _. omega arith)
    (λ _. pick_case Up (ltb x v) _ _ (λ _ e. let z = ltb-false 0 _ e in omega arith) (λ _ _. omega arith))

-- where the term is no less than s, s does not count
pushed_alone : (term n : ℕ) (slows : Bool) → (slows ≡ false → n ≤ term) → pushed term (record { slows = slows; size = n }) ≡ speeding (min 30 term)
unfolding pushed speeding pick
pushed_alone term n true h = refl
pushed_alone term n false h = let l = h refl in ap speeding (omega arith)

pub cruising_pulled : (g v x : ℕ) → 90 < g → cruising g v x ≡ pulled g
unfolding cruising urged pulled pushed pick
cruising_pulled g v x h =
    let t = gas_above_90 g h in
    rw (ne_eqb g 0 (omega arith)) (pushed_alone (gas_term g) (towards v x).size (towards v x).slows (λ e. let u = towards_up v x e in omega arith))

-- "at least 12 tenths, at most 30"
pub pulled_band : (g : ℕ) → 90 < g → (pos 12 ≤ℤ signed (pulled g)) × (signed (pulled g) ≤ℤ pos 30)
unfolding signed pulled speeding pick
pulled_band g h =
    let t = gas_above_90 g h in
    (record { le = le→leb 12 (min 30 (gas_term g)) (omega arith) }, record { le = le→leb (min 30 (gas_term g)) 30 (omega arith) })

-- a car that close would slow or leave standing gets another a from gas above 90
pub pulled_backed : (g v : ℕ) → 90 < g → backed_off v ≡ pulled g → ⊥
unfolding backed_off pulled speeding slowing
pulled_backed g v h =
    let t = gas_above_90 g h in
    pick_case (λ (a : Acceleration). a ≡ pulled g → ⊥) (ltb 0 v) _ _
    (λ _ e. true≢false (ap (λ (a : Acceleration). a.slows) e))
    (λ _ e. let z = ap (λ (a : Acceleration). a.size) e in omega arith)
