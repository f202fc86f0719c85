-- An accepted event keeps the standing rules, from every good car: (a) to (f) as far as one car shows them, and what neighbouring cars show.
-- Assumes nothing.
use Rattle.std.specs.Prelude.{Bool, true, false, ◌≡◌, refl, ℕ, ◌≤◌, eqb, leb, ltb}
use Rattle.std.proofs.Common.{sym, ◌∙◌, ap, arith, leb-true, ltb-false, eqb-true, eq-eqb, ne_eqb}
use Rattle.std.proofs.lemmas.Bool.{eqb-false}
use Rattle.kit.specs.Answer.{Answer, gives, refused}
use Rattle.kit.specs.Bounds.{pedal_ceiling, speed_ceiling}
use Rattle.kit.specs.Pick.{pick, pick_true, pick_false, pick_case, and_l, and_r, no}
use Rattle.event.specs.declared.Input.{Input}
use Rattle.event.specs.declared.Input.TheVariants.{Key, UpDown, ForeBack, Brake, Gas, Button, Gap, Sign, Radar}
use Rattle.event.specs.declared.Event.{Event}
use Rattle.event.specs.declared.Event.TheVariants as event
use Rattle.event.specs.Words.{input_kind, input_range, in_range, read_of}
use Rattle.event.proofs.WordLaws.{read_in_range, refused_some}
use Rattle.car.specs.declared.Car.{Car}
use Rattle.car.specs.Drive.{Driven, input_next, event_next, reading_check, check_of, reading_next, next_of, chosen, step_of, drive_of}
use Rattle.car.specs.Car.{with_levers, with_limiter, with_cruise}
use Rattle.checks.proofs.CheckLaws.{key_on_lem, updown_passed, foreback_passed, pedal_passed, button_passed, radar_passed, tick_passed}
use Rattle.car.specs.Checks.{own_check, input_check, event_check}
use Rattle.car.specs.Good.{good_of}
use Rattle.car.proofs.GoodLaws.{good, good_test}
use Rattle.car.proofs.KeepLaws.{key_good, updown_good, moved_foreback_good, cruise_off_good, pedal_good, limiter_good, gap_good, sign_good, reading_good, tick_good}
use Rattle.car.specs.Rules.{cruise_off, brake_pressed, gas_pressed, button_pressed}
use Rattle.car.specs.Standing.{Good}

-- ---- the next car is good
brake_good : (c : Car) (x : ℕ) → Good c → x ≤ pedal_ceiling → c.key ≡ 2 → c.pedals.gas ≡ 0 → Good (brake_pressed c x)
unfolding brake_pressed cruise_off with_cruise with_levers
brake_good c x g h k z =
    pick_case Good (ltb 0 x) _ _
    (λ t. pedal_good (cruise_off c) (cruise_off_good c g) x _ h g.ranges.gas (λ _. z) k (λ e. no (sym e)) (λ e. (g.limiter_on e).gas))
    (λ t. let n = ltb-false 0 x t in pedal_good c g x _ h g.ranges.gas (λ _. z) k (λ _. omega arith) (λ e. (g.limiter_on e).gas))

-- S after the gas, on: the gas is at most 90, and S was on
still_on : (t s : Bool) → pick t false s ≡ true → (t ≡ false) × (s ≡ true)
unfolding pick
still_on true s e = no (sym e)
still_on false s e = (refl, e)

gas_good : (c : Car) (x : ℕ) → Good c → x ≤ pedal_ceiling → c.key ≡ 2 → c.pedals.brake ≡ 0 → Good (gas_pressed c x)
unfolding gas_pressed with_limiter
gas_good c x g h k b =
    let l = limiter_good c g c.limiter.button (pick (ltb 90 x) false c.limiter.on) c.limiter.limit g.ranges.limit k
    (λ e. let o = g.limiter_on (still_on (ltb 90 x) _ e).1 in (o.button, o.gas, o.speed)) (λ e. (g.button_in e).1) in
    pedal_good _ l c.pedals.brake x g.ranges.brake h (λ q. absurd (omega arith)) k (λ _. b) (λ e. ltb-false 90 x (still_on (ltb 90 x) _ e).0)

input_good : (c : Car) (i : Input) → Good c → input_range i ≡ true → input_check c i ≡ 0 → Good (input_next c i)
unfolding input_range input_check own_check input_kind pick input_next button_pressed
input_good c (Key k ready) g i h = key_good c g k ready (leb-true k 2 i)
input_good c (UpDown x) g i h = updown_good c g x (leb-true x 4 i) (updown_passed _ _ x h).1
input_good c (ForeBack y) g i h = moved_foreback_good c g y (leb-true y 2 i) (foreback_passed _ _ y h).1
input_good c (Brake x) g i h = let k = key_on_lem _ _ h in brake_good c x g (leb-true x pedal_ceiling i) k.0 (pedal_passed _ _ x k.1)
input_good c (Gas x) g i h = let k = key_on_lem _ _ h in gas_good c x g (leb-true x pedal_ceiling i) k.0 (pedal_passed _ _ x k.1)
input_good c (Button z) g i h =
    let k = key_on_lem _ _ h in
    let p = button_passed _ _ _ _ z k.1 in
    limiter_good c g true true z (leb-true z speed_ceiling i) k.0 (λ _. (refl, p.1, p.2)) (λ _. p.0)
input_good c (Gap n) g i h = gap_good c g n i
input_good c (Sign s) g i h = sign_good c g s (key_on_lem _ _ h).0
input_good c (Radar range speed) g i h =
    let k = key_on_lem _ _ h in
    reading_good c g range speed (leb-true range 254 (and_l _ (leb speed speed_ceiling) i)) (leb-true speed speed_ceiling (and_r (leb range 254) _ i)) k.0 (radar_passed _ k.1)

pub next_good : (c : Car) (e : Event) → Good c → in_range e ≡ true → event_check c e ≡ 0 → Good (event_next c e)
unfolding in_range event_check event_next
next_good c (event.Input i) g r h = input_good c i g r h
next_good c (event.Tick ready) g r h = tick_good c g (tick_passed _ _ _ ready h) ready

-- ---- a word
-- a word is an accepted event, whose rule gives the next car, or it leaves the car
pub data Stepping (c : Car) (w : ℕ) : Type 0 where
  went : (e : Event) → read_of w ≡ gives e → in_range e ≡ true → event_check c e ≡ 0 → check_of c w ≡ 0
      → step_of c w ≡ record { car = event_next c e; refusal = 0 } → Stepping c w
  stayed : (check_of c w ≡ 0 → ⊥) → step_of c w ≡ record { car = c; refusal = check_of c w } → Stepping c w

chosen_kept : (c : Car) (n : ℕ) (d : Car) → (n ≡ 0 → ⊥) → chosen c n d ≡ record { car = c; refusal = n }
unfolding chosen
chosen_kept c n d h = pick_false _ _ _ (ne_eqb n 0 h)

chosen_next : (c : Car) (n : ℕ) (d : Car) → n ≡ 0 → chosen c n d ≡ record { car = d; refusal = 0 }
unfolding chosen
chosen_next c n d h = pick_true _ _ _ (eq-eqb n 0 h)

read_check : (c : Car) (w : ℕ) (e : Event) → read_of w ≡ gives e → (check_of c w ≡ event_check c e) × (next_of c w ≡ event_next c e)
unfolding check_of next_of reading_check reading_next
read_check c w e h = (rw h, rw h)

unread_check : (c : Car) (w n : ℕ) → read_of w ≡ refused n → check_of c w ≡ n
unfolding check_of reading_check
unread_check c w n h = rw h

pub stepping : (c : Car) (w : ℕ) → Stepping c w
unfolding step_of
stepping c w = go (read_of w) refl
  where
    accepted : (e : Event) → read_of w ≡ gives e → (t : Bool) → eqb (event_check c e) 0 ≡ t → Stepping c w
    accepted e h true t =
        let k = read_check c w e h in
        let z = eqb-true _ _ t in
        went e h (read_in_range w e h) z (k.0 ∙ z) (rw k.1 (chosen_next c _ _ (k.0 ∙ z)))
    accepted e h false t =
        let k = read_check c w e h in
        let z : (check_of c w ≡ 0 → ⊥) = λ q. eqb-false _ _ t (sym k.0 ∙ q) in
        stayed z (chosen_kept c _ _ z)

    go : (r : Answer Event) → read_of w ≡ r → Stepping c w
    go (refused n) h =
        let k = unread_check c w n h in
        let b = refused_some w n h in
        let z : (check_of c w ≡ 0 → ⊥) = λ q. omega (arith, sym k ∙ q) in
        stayed z (chosen_kept c _ _ z)
    go (gives e) h = accepted e h (eqb (event_check c e) 0) refl

-- the refusal is the check's number
pub step_refusal : (c : Car) (w : ℕ) → (step_of c w).refusal ≡ check_of c w
step_refusal c w = by (stepping c w)
  where
    by : Stepping c w → (step_of c w).refusal ≡ check_of c w
    by (went e r i h z q) = ap (λ (d : Driven). d.refusal) q ∙ sym z
    by (stayed n q) = ap (λ (d : Driven). d.refusal) q

-- a word keeps every good car good
pub step_good : (c : Car) (w : ℕ) → good_of c ≡ true → good_of (step_of c w).car ≡ true
step_good c w g = by (stepping c w)
  where
    by : Stepping c w → good_of (step_of c w).car ≡ true
    by (went e r i h z q) = rw q (good_test _ (next_good c e (good c g) i h))
    by (stayed n q) = rw q g

-- a good car is driven by the checks and the rules
pub drive_step : (c : Car) (w : ℕ) → good_of c ≡ true → drive_of c w ≡ step_of c w
unfolding drive_of
drive_step c w g = pick_true _ _ _ g
