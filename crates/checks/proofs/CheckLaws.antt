-- Laws of the checks: what they show of an accepted event, and that none gives a number above 16.
-- Assumes nothing.
use Rattle.std.specs.Prelude.{Bool, true, false, not, ◌≡◌, refl, ℕ, ◌≤◌, ◌<◌, eqb, leb, ltb}
use Rattle.std.proofs.Common.{arith, leb-false, ltb-false, eqb-true}
use Rattle.std.proofs.lemmas.Bool.{eqb-false, not-false}
use Rattle.kit.specs.Bounds.{lesson_length}
use Rattle.kit.specs.Pick.{pick_le, passed}
use Rattle.checks.specs.Checks.{key_on, key_check, up_down_skips, up_down_check, fore_back_skips, fore_back_check, pedal_check, button_check, radar_check, tick_check}

-- ---- what they show
pub key_on_lem : (key n : ℕ) → key_on key n ≡ 0 → (key ≡ 2) × (n ≡ 0)
unfolding key_on
key_on_lem key n h = let p = passed (not (eqb key 2)) 4 n refl h in (eqb-true _ _ (not-false _ p.0), p.1)

pub key_passed : (key v x : ℕ) (ready : Bool) → key_check key v x ready ≡ 0 → v ≡ 0
unfolding key_check
key_passed key v x ready h =
    let p = passed (eqb x key) 5 _ refl h in
    let q = passed (ltb 0 v) 6 _ refl p.1 in
    let z = ltb-false 0 v q.0 in
    omega arith

pub updown_passed : (l m x : ℕ) → up_down_check l m x ≡ 0 → (up_down_skips l x ≡ false) × (m ≡ 0)
unfolding up_down_check
updown_passed l m x h =
    let p = passed (eqb x l) 5 _ refl h in
    let q = passed (up_down_skips l x) 7 _ refl p.1 in
    let r = passed (not (eqb m 0)) 8 0 refl q.1 in
    (q.0, eqb-true _ _ (not-false _ r.0))

pub foreback_passed : (m l x : ℕ) → fore_back_check m l x ≡ 0 → (fore_back_skips m x ≡ false) × (l ≡ 0)
unfolding fore_back_check
foreback_passed m l x h =
    let p = passed (eqb x m) 5 _ refl h in
    let q = passed (fore_back_skips m x) 7 _ refl p.1 in
    let r = passed (not (eqb l 0)) 8 0 refl q.1 in
    (q.0, eqb-true _ _ (not-false _ r.0))

pub pedal_passed : (held other x : ℕ) → pedal_check held other x ≡ 0 → other ≡ 0
unfolding pedal_check
pedal_passed held other x h =
    let p = passed (eqb x held) 5 _ refl h in
    let q = passed (ltb 0 other) 9 0 refl p.1 in
    let z = ltb-false 0 other q.0 in
    omega arith

pub button_passed : (b : Bool) (m g v z : ℕ) → button_check b m g v z ≡ 0 → (m ≡ 2 → ⊥) × (g ≤ 90) × (v ≤ z)
unfolding button_check
button_passed b m g v z h =
    let p = passed b 10 _ refl h in
    let q = passed (eqb m 2) 11 _ refl p.1 in
    let r = passed (ltb 90 g) 12 _ refl q.1 in
    let s = passed (ltb z v) 13 0 refl r.1 in
    (eqb-false _ _ q.0, ltb-false _ _ r.0, ltb-false _ _ s.0)

pub radar_passed : (p : Bool) → radar_check p ≡ 0 → p ≡ true
unfolding radar_check
radar_passed p h = not-false _ (passed (not p) 14 0 refl h).0

pub tick_passed : (p due : Bool) (now : ℕ) (ready : Bool) → tick_check p due now ready ≡ 0 → now < lesson_length
unfolding tick_check
tick_passed p due now ready h =
    let q = passed _ 15 _ refl h in
    let r = passed (leb lesson_length now) 16 0 refl q.1 in
    leb-false _ _ r.0

-- ---- no number above 16
pub key_on_le : (key n : ℕ) → n ≤ 16 → key_on key n ≤ 16
unfolding key_on
key_on_le key n h = pick_le _ _ _ _ (omega arith) h

pub key_le : (key v x : ℕ) (ready : Bool) → key_check key v x ready ≤ 16
unfolding key_check
key_le key v x ready =
    pick_le _ _ _ _ (omega arith) (pick_le _ _ _ _ (omega arith) (pick_le _ _ _ _ (omega arith) (pick_le _ _ _ _ (omega arith) (omega arith))))

pub updown_le : (l m x : ℕ) → up_down_check l m x ≤ 16
unfolding up_down_check
updown_le l m x = pick_le _ _ _ _ (omega arith) (pick_le _ _ _ _ (omega arith) (pick_le _ _ _ _ (omega arith) (omega arith)))

pub foreback_le : (m l x : ℕ) → fore_back_check m l x ≤ 16
unfolding fore_back_check
foreback_le m l x = pick_le _ _ _ _ (omega arith) (pick_le _ _ _ _ (omega arith) (pick_le _ _ _ _ (omega arith) (omega arith)))

pub pedal_le : (held other x : ℕ) → pedal_check held other x ≤ 16
unfolding pedal_check
pedal_le held other x = pick_le _ _ _ _ (omega arith) (pick_le _ _ _ _ (omega arith) (omega arith))

pub button_le : (b : Bool) (m g v z : ℕ) → button_check b m g v z ≤ 16
unfolding button_check
button_le b m g v z =
    pick_le _ _ _ _ (omega arith) (pick_le _ _ _ _ (omega arith) (pick_le _ _ _ _ (omega arith) (pick_le _ _ _ _ (omega arith) (omega arith))))

pub radar_le : (p : Bool) → radar_check p ≤ 16
unfolding radar_check
radar_le p = pick_le _ _ _ _ (omega arith) (omega arith)

pub tick_le : (p due : Bool) (now : ℕ) (ready : Bool) → tick_check p due now ready ≤ 16
unfolding tick_check
tick_le p due now ready = pick_le _ _ _ _ (omega arith) (pick_le _ _ _ _ (omega arith) (omega arith))
