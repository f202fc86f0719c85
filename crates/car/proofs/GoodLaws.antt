-- The good-car test and the named rules of `Standing` say the same; a fresh car is good.
-- Assumes nothing.
use Rattle.std.specs.Prelude.{Bool, false, ◌||◌, not, ◌≡◌, refl, ℕ, ◌+◌, ◌-◌, ◌≤◌, ◌<◌, eqb}
use Rattle.std.proofs.Math.Bool.{true}
use Rattle.std.specs.Bool.{beq}
use Rattle.std.proofs.Common.{sym, ◌∙◌, arith}
use borrow.Author.Tests.{leb-true, eqb-true, eqb-false, le-leb, eq-eqb, ne_eqb}
use Rattle.kit.specs.Bounds.{desired_ceiling, test_period}
use Rattle.kit.specs.Pick.{pick_le, le_pick, and_l, and_r, and_both, implied, or_else, not_is, or_test, implies_test, not_of_false, not_of_true}
use Rattle.event.specs.Words.{permitted_gap}
use Rattle.desired.specs.Desired.{held}
use Rattle.car.specs.declared.Car.{Car}
use Rattle.car.specs.declared.Settings.{Settings}
use Rattle.car.specs.Car.{ceiling_of, fresh_car}
use Rattle.car.specs.Good.{positions_of, numbers_of, ranges_of, times_of, rule_a, rule_b, rule_c, rule_d, rule_e, rule_f, lever_held, idle_of, off_of, cruising_of, limiting_of, button_of, tested_of, obeys_of, good_at, good_of}
use Rattle.car.specs.Standing.{Ranges, Off, Cruising, Limiting, Good}

-- the ceiling of D and B
pub ceiling_le : (s : Settings) → ceiling_of s ≤ desired_ceiling
unfolding ceiling_of
ceiling_le s = pick_le _ _ _ _ (omega arith) (omega arith)

pub ceiling_low : (s : Settings) → 10 ≤ ceiling_of s
unfolding ceiling_of
ceiling_low s = le_pick _ _ _ _ (omega arith) (omega arith)

-- ---- the ranges
some_eqb : (n : ℕ) → 1 ≤ n → eqb n 0 ≡ false
some_eqb n h = ne_eqb n 0 (omega arith)

eqb_some : (n : ℕ) → eqb n 0 ≡ false → 1 ≤ n
eqb_some n h = let e = eqb-false n 0 h in omega arith

pub ranges : (c : Car) → ranges_of (ceiling_of c.settings) c ≡ true → Ranges c
unfolding ranges_of positions_of numbers_of
ranges c h = search (and_l, and_r, leb-true, or_else, some_eqb) depth 24 fits 4000

pub ranges_test : (c : Car) → Ranges c → ranges_of (ceiling_of c.settings) c ≡ true
unfolding ranges_of positions_of numbers_of
ranges_test c r = search (and_both, le-leb, or_test, eqb_some, r.manual_low) depth 24 fits 4000

pub good_ranges : (c : Car) → good_of c ≡ true → Ranges c
unfolding good_of good_at
good_ranges c h = ranges c (and_l _ _ h)

-- ---- two flags, one the other's negation
beq_not : (a b : Bool) → beq a (not b) ≡ true → a ≡ not b
beq_not true true e = sym e
beq_not true false e = refl
beq_not false true e = refl
beq_not false false e = e

not_beq : (a b : Bool) → a ≡ not b → beq a (not b) ≡ true
not_beq true true e = sym e
not_beq true false e = refl
not_beq false true e = refl
not_beq false false e = e

by_flag : (p a : Bool) → (p ≡ false → a ≡ true) → (p ≡ true → a ≡ false) → a ≡ not p
by_flag true a f g = g refl
by_flag false a f g = f refl

-- ---- the rules one by one, from the test and to it
module _ (c : Car) where
  one_pedal : rule_a c ≡ true → 1 ≤ c.pedals.brake → c.pedals.gas ≡ 0
  unfolding rule_a
  one_pedal h b = search (and_l, or_else, some_eqb, eqb-true)

  off : rule_a c ≡ true → (c.key ≡ 2 → ⊥) → Off c
  unfolding rule_a
  off h k =
      let s : (eqb c.key 2 || off_of c) ≡ true = search (and_r) in
      let t : off_of c ≡ true = or_else _ _ s (ne_eqb _ _ k) in
      search (and_l, and_r, eqb-true, not_is) depth 24 fits 4000

  a_test : (1 ≤ c.pedals.brake → c.pedals.gas ≡ 0) → ((c.key ≡ 2 → ⊥) → Off c) → rule_a c ≡ true
  unfolding rule_a
  a_test p o =
      and_both _ _
      (or_test _ _ (λ t. eq-eqb _ _ (p (eqb_some _ t))))
      (or_test _ _ (λ t. let f = o (eqb-false _ _ t) in search (and_both, eq-eqb, not_of_false) depth 24 fits 4000))

  one_lever : rule_b c ≡ true → 1 ≤ c.levers.updown → c.levers.foreback ≡ 0
  unfolding rule_b
  one_lever h l = search (or_else, some_eqb, eqb-true)

  b_test : (1 ≤ c.levers.updown → c.levers.foreback ≡ 0) → rule_b c ≡ true
  unfolding rule_b
  b_test p = or_test _ _ (λ t. eq-eqb _ _ (p (eqb_some _ t)))

  cruise_on : Ranges c → rule_c c ≡ true → c.cruise.on ≡ true → Cruising c.pedals.brake c.levers.foreback c.cruise.desired (ceiling_of c.settings)
  unfolding rule_c
  cruise_on r h e =
      let t : cruising_of c ≡ true = implied _ _ h e in
      search (and_l, and_r, eqb-true, leb-true, not_is, eqb-false) depth 12

  c_test : (c.cruise.on ≡ true → Cruising c.pedals.brake c.levers.foreback c.cruise.desired (ceiling_of c.settings)) → rule_c c ≡ true
  unfolding rule_c
  c_test p = implies_test _ _ (λ t. let f = p t in search (and_both, eq-eqb, le-leb, not_of_false, ne_eqb) depth 12)

  limiter_on : rule_d c ≡ true → c.limiter.on ≡ true → Limiting c.limiter.button c.pedals.gas c.speed c.limiter.limit
  unfolding rule_d
  limiter_on h e =
      let s : (not c.limiter.on || limiting_of c) ≡ true = search (and_l) in
      let t : limiting_of c ≡ true = implied _ _ s e in
      search (and_l, and_r, leb-true) depth 12

  button_in : rule_d c ≡ true → c.limiter.button ≡ true → (c.key ≡ 2) × (c.levers.foreback ≡ 2 → ⊥)
  unfolding rule_d
  button_in h e =
      let s : (not c.limiter.button || button_of c) ≡ true = search (and_r) in
      let t : button_of c ≡ true = implied _ _ s e in
      search (and_l, and_r, eqb-true, not_is, eqb-false) depth 12

  d_test : (c.limiter.on ≡ true → Limiting c.limiter.button c.pedals.gas c.speed c.limiter.limit) → (c.limiter.button ≡ true → (c.key ≡ 2) × (c.levers.foreback ≡ 2 → ⊥)) → rule_d c ≡ true
  unfolding rule_d
  d_test p q =
      and_both _ _
      (implies_test _ _ (λ t. let f = p t in search (and_both, le-leb) depth 12))
      (implies_test _ _ (λ t. let f = q t in search (and_both, eq-eqb, not_of_false, ne_eqb) depth 12))

  range_is : rule_e c ≡ true → eqb c.radar.range 255 ≡ not c.radar.ready
  unfolding rule_e
  range_is h = beq_not _ c.radar.ready (search (and_l))

  not_ready : rule_e c ≡ true → c.radar.ready ≡ false → c.radar.range ≡ 255
  not_ready h e = eqb-true _ _ (range_is h ∙ not_of_false _ e)

  ready : rule_e c ≡ true → c.radar.ready ≡ true → c.radar.range ≡ 255 → ⊥
  ready h e = eqb-false _ _ (range_is h ∙ not_of_true _ e)

  tested : rule_e c ≡ true → c.key ≡ 2 → (c.radar.tested ≤ c.now) × (c.now < c.radar.tested + test_period)
  unfolding rule_e
  tested h k =
      let s : (not (eqb c.key 2) || tested_of c) ≡ true = search (and_r) in
      let t : tested_of c ≡ true = implied _ _ s (eq-eqb _ _ k) in
      search (and_l, and_r, leb-true)

  e_test : (c.radar.ready ≡ false → c.radar.range ≡ 255) → (c.radar.ready ≡ true → c.radar.range ≡ 255 → ⊥)
      → (c.key ≡ 2 → (c.radar.tested ≤ c.now) × (c.now < c.radar.tested + test_period)) → rule_e c ≡ true
  unfolding rule_e
  e_test p q r =
      and_both _ (not (eqb c.key 2) || tested_of c)
      (not_beq _ c.radar.ready (by_flag c.radar.ready (eqb c.radar.range 255) (λ t. eq-eqb _ _ (p t)) (λ t. ne_eqb _ _ (q t))))
      (implies_test _ (tested_of c) (λ t. let f = r (eqb-true _ _ t) in search (and_both, le-leb)))

  lever_idle : times_of c ≡ true → lever_held c ≡ false → (c.levers.time ≡ 0) × (c.levers.base ≡ 0)
  unfolding times_of
  lever_idle h e =
      let s : (lever_held c || idle_of c) ≡ true = search (and_l) in
      let t : idle_of c ≡ true = or_else (lever_held c) (idle_of c) s e in
      search (and_l, and_r, eqb-true)

  lever_time : times_of c ≡ true → c.levers.time ≤ c.now
  unfolding times_of
  lever_time h = leb-true _ _ (and_r (lever_held c || idle_of c) _ h)

  times_test : (lever_held c ≡ false → (c.levers.time ≡ 0) × (c.levers.base ≡ 0)) → c.levers.time ≤ c.now → times_of c ≡ true
  unfolding times_of
  times_test p q = and_both _ _ (or_test (lever_held c) (idle_of c) (λ t. let f = p t in search (and_both, eq-eqb))) (le-leb _ _ q)

  Hold : Type 0
  Hold = c.cruise.desired ≡ held (ceiling_of c.settings) c.levers.updown c.levers.base (c.now - c.levers.time)

  hold : rule_f (ceiling_of c.settings) c ≡ true → lever_held c ≡ true → Hold
  unfolding rule_f Hold
  hold h e = eqb-true _ _ (implied (lever_held c) _ h e)

  f_test : (lever_held c ≡ true → Hold) → rule_f (ceiling_of c.settings) c ≡ true
  unfolding rule_f Hold
  f_test p = implies_test (lever_held c) _ (λ t. eq-eqb _ _ (p t))

-- a car that passes the test obeys each rule, and one that obeys each rule passes it
pub good : (c : Car) → good_of c ≡ true → Good c
unfolding good_of good_at obeys_of Hold
good c h =
    let r = good_ranges c h in
    let t : times_of c ≡ true = search (and_l, and_r) depth 12 in
    let a : rule_a c ≡ true = search (and_l, and_r) depth 12 in
    let b : rule_b c ≡ true = search (and_l, and_r) depth 12 in
    let e : rule_c c ≡ true = search (and_l, and_r) depth 12 in
    let d : rule_d c ≡ true = search (and_l, and_r) depth 12 in
    let f : rule_e c ≡ true = search (and_l, and_r) depth 12 in
    let g : rule_f (ceiling_of c.settings) c ≡ true = search (and_l, and_r) depth 12 in
    record {
      ranges = r;
      lever_idle = lever_idle c t;
      lever_time = lever_time c t;
      one_pedal = one_pedal c a;
      off = off c a;
      one_lever = one_lever c b;
      cruise_on = cruise_on c r e;
      limiter_on = limiter_on c d;
      button_in = button_in c d;
      not_ready = not_ready c f;
      ready = ready c f;
      tested = tested c f;
      hold = hold c g;
    }

pub good_test : (c : Car) → Good c → good_of c ≡ true
unfolding good_of good_at obeys_of Hold
good_test c g =
    let r = ranges_test c g.ranges in
    let t = times_test c g.lever_idle g.lever_time in
    let a = a_test c g.one_pedal g.off in
    let b = b_test c g.one_lever in
    let e = c_test c g.cruise_on in
    let d = d_test c g.limiter_on g.button_in in
    let f = e_test c g.not_ready g.ready g.tested in
    let h = f_test c g.hold in
    search (and_both) depth 12

-- ---- a fresh car is good
pub fresh_good : (s : Settings) → 1 ≤ s.mode → s.mode ≤ 2 → good_of (fresh_car s) ≡ true
unfolding good_of good_at ranges_of positions_of numbers_of permitted_gap fresh_car obeys_of times_of rule_a rule_b rule_c rule_d rule_e rule_f
fresh_good s p q = rw (le-leb 1 s.mode p, le-leb s.mode 2 q, le-leb 0 (ceiling_of s) (omega arith))
