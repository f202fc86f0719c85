-- Every rule keeps a car good: document 01, "Standing rules" (a) to (f), as far as one car shows them, from every good car.
-- Assumes nothing.
use Rattle.std.specs.Prelude.{Bool, ◌&&◌, ◌||◌, ◌≡◌}
use Rattle.std.proofs.Math.Bool.{true, false, not}
use Rattle.std.proofs.Math.Path.{refl, sym}
use Rattle.std.proofs.Common.{◌∙◌}
use Prim.Native.Nat.{ℕ, ◌+◌, ◌-◌, ◌≤◌, ◌<◌, min}
use Rattle.std.proofs.Math.Dec.{eqb, leb, ltb}
use native.Mathlib.Omega.{arith}
use borrow.Author.Tests.{leb-true, leb-false, ltb-true, ltb-false, eqb-true, eqb-false, eq-eqb, ne_eqb}
use Rattle.kit.specs.Bounds.{pedal_ceiling, speed_ceiling, lesson_length, test_period}
use Rattle.kit.specs.Pick.{pick_true, pick_false, pick_case, pick_le, le_pick, and_left, and_l, and_r, not_is, and_right, and_next, not_of_true, not_of_false, no}
use Rattle.event.specs.Words.{permitted_gap}
use Rattle.desired.specs.Desired.{held, manual_after, sign_gives, sign_desired}
use Rattle.desired.proofs.DesiredLaws.{stepped_le, stepped_pos, long_held_le, long_held_pos, held_early, held_late, held_start}
use Rattle.motion.specs.Acceleration.{speeding}
use Rattle.motion.proofs.AccelerationLaws.{Banded, change_none}
use Rattle.motion.specs.Speed.{change}
use Rattle.motion.proofs.SpeedLaws.{at_most_le, at_most_cap, le_at_most, moved_le, moved_up, moved_down}
use Rattle.car.specs.declared.Car.{Car}
use Rattle.car.specs.declared.RangeRadar.{RangeRadar}
use Rattle.car.specs.Acceleration.{acceleration_of}
use Rattle.car.specs.Car.{ceiling_of, with_levers, with_pedals, with_limiter, with_cruise, with_radar, with_gap}
use Rattle.car.specs.Good.{lever_held}
use Rattle.car.proofs.GoodLaws.{ceiling_low}
use Rattle.car.specs.Rules.{key_radar, key_turned, lever_desired, while_held, up_down_moved, with_foreback, engages, start_desired, engaged, forward, cruise_off, backward, fore_back_moved, sign_acts, sign_after, sign_passed, reading_taken, test_due, range_after, radar_tested, radar_after, hold_desired, tick_desired, holds_desired, tick_speed, ticked}
use Rattle.car.specs.Standing.{Off, Good}

refuted : (t : Bool) → (t ≡ true → ⊥) → t ≡ false
refuted true h = absurd (h refl)
refuted false h = refl

-- ---- what the rules ask of the radar, with the key at k and the clock at now
record RadarGood (k now : ℕ) (r : RangeRadar) : Type 0 where
  pub range : r.range ≤ 255
  pub lead : r.lead ≤ speed_ceiling
  pub earlier : r.earlier ≤ speed_ceiling
  pub tested_range : r.tested ≤ lesson_length
  pub not_ready : r.ready ≡ false → r.range ≡ 255
  pub ready : r.ready ≡ true → r.range ≡ 255 → ⊥
  pub tested : k ≡ 2 → (r.tested ≤ now) × (now < r.tested + test_period)
  pub off : (k ≡ 2 → ⊥) → (r.ready ≡ false) × (r.lead ≡ 0) × (r.earlier ≡ 0) × (r.tested ≡ 0) × (r.range ≡ 255)

key_radar_good : (k : ℕ) (ready : Bool) (now : ℕ) → now ≤ lesson_length → RadarGood k now (key_radar k ready now)
unfolding key_radar
key_radar_good k ready now h =
    pick_case (RadarGood k now) (eqb k 2) _ _
    (λ t. record {
      range = pick_le _ _ _ _ (omega arith) (omega arith);
      lead = omega arith;
      earlier = omega arith;
      tested_range = h;
      not_ready = λ e. pick_false _ _ _ e;
      ready = λ e f. let z : ◌≡◌ {A = ℕ} 0 255 = sym (pick_true ready 0 255 e) ∙ f in omega arith;
      tested = λ _. omega arith;
      off = λ k. absurd (k (eqb-true _ _ t));
    })
    (λ t. record {
      range = omega arith;
      lead = omega arith;
      earlier = omega arith;
      tested_range = omega arith;
      not_ready = λ _. refl;
      ready = λ e. no (sym e);
      tested = λ k. absurd (eqb-false _ _ t k);
      off = λ _. (refl, refl, refl, refl, refl);
    })

-- ---- T and B: 0 unless cruise is on and L is out
while_held_idle : (on : Bool) (x n : ℕ) → (on && not (eqb x 0)) ≡ false → while_held on x n ≡ 0
unfolding while_held
while_held_idle on x n t = pick_false _ _ _ t

pub while_held_held : (on : Bool) (x n : ℕ) → (on && not (eqb x 0)) ≡ true → while_held on x n ≡ n
unfolding while_held
while_held_held on x n t = pick_true _ _ _ t

-- ---- the rules one by one, from a good car
module _ (c : Car) (g : Good c) where
  pub key_good : (k : ℕ) (ready : Bool) → k ≤ 2 → Good (key_turned c k ready)
  unfolding key_turned
  key_good k ready h =
      let r = g.ranges in
      let p = key_radar_good k ready c.now r.now in
      record {
        ranges = search (r.manual_low, arith);
        lever_idle = λ _. (refl, refl);
        lever_time = omega arith;
        one_pedal = λ _. refl;
        off = λ k. let o = p.off k in search (arith);
        one_lever = g.one_lever;
        cruise_on = λ e. no (sym e);
        limiter_on = λ e. no (sym e);
        button_in = λ e. no (sym e);
        not_ready = p.not_ready;
        ready = p.ready;
        tested = p.tested;
        hold = λ e. no (sym e);
      }

  -- ---- L
  lever_desired_le : (x : ℕ) → lever_desired c x ≤ ceiling_of c.settings
  unfolding lever_desired
  lever_desired_le x =
      let d = g.ranges.desired in
      pick_le _ _ _ _ d (pick_le _ _ _ _ (stepped_le _ (ceiling_low c.settings) x _ d) (omega arith))

  lever_desired_pos : (x : ℕ) → c.cruise.on ≡ true → 1 ≤ lever_desired c x
  unfolding lever_desired
  lever_desired_pos x e =
      le_pick _ _ _ _ (g.cruise_on e).low (simp pick_true (stepped_pos _ (ceiling_low c.settings) x _))

  lever_desired_off : (x : ℕ) → Off c → lever_desired c x ≡ 0
  unfolding lever_desired
  lever_desired_off x o =
      pick_case (λ (n : ℕ). n ≡ 0) (eqb x 0) _ _ (λ _. o.desired) (λ _. pick_false _ _ _ o.cruise ∙ omega (arith, o.speed))

  while_held_le : (x n k : ℕ) → n ≤ k → while_held c.cruise.on x n ≤ k
  unfolding while_held
  while_held_le x n k h = pick_le _ _ _ _ h (omega arith)

  manual_after_low : (d : ℕ) → 1 ≤ manual_after d c.cruise.manual → 1200 ≤ manual_after d c.cruise.manual
  unfolding manual_after
  manual_after_low d =
      pick_case (λ (n : ℕ). 1 ≤ n → 1200 ≤ n) (leb 1200 d) _ _ (λ t _. leb-true _ _ t) (λ _. g.ranges.manual_low)

  manual_after_le : (d : ℕ) → d ≤ ceiling_of c.settings → manual_after d c.cruise.manual ≤ ceiling_of c.settings
  unfolding manual_after
  manual_after_le d h = pick_le _ _ _ _ h g.ranges.manual

  manual_after_off : Off c → (d : ℕ) → d ≡ 0 → manual_after d c.cruise.manual ≡ 0
  unfolding manual_after
  manual_after_off o d h = pick_case (λ (n : ℕ). n ≡ 0) (leb 1200 d) _ _ (λ _. h) (λ _. o.manual)

  pub updown_good : (x : ℕ) → x ≤ 4 → c.levers.foreback ≡ 0 → Good (up_down_moved c x)
  unfolding up_down_moved with_cruise with_levers
  updown_good x h m =
      let r = g.ranges in
      let d = lever_desired_le x in
      let b = while_held_le x _ _ d in
      let l = manual_after_low (lever_desired c x) in
      let e = manual_after_le _ d in
      record {
        ranges = search (l, arith);
        lever_idle = λ t. (while_held_idle _ _ _ t, while_held_idle _ _ _ t);
        lever_time = while_held_le x _ _ (omega arith);
        one_pedal = g.one_pedal;
        off = λ k.
            let o = g.off k in
            let a = lever_desired_off x o in
            let b = manual_after_off o _ a in
            let i = and_left c.cruise.on (not (eqb x 0)) o.cruise in
            let t = while_held_idle c.cruise.on x c.now i in
            let u = while_held_idle c.cruise.on x (lever_desired c x) i in
            search (arith);
        one_lever = λ _. m;
        cruise_on = λ t. let k = g.cruise_on t in record { brake = k.brake; lever = k.lever; low = lever_desired_pos x t; high = d };
        limiter_on = g.limiter_on;
        button_in = g.button_in;
        not_ready = g.not_ready;
        ready = g.ready;
        tested = g.tested;
        hold = λ t. rw (while_held_held c.cruise.on x (lever_desired c x) t, while_held_held c.cruise.on x c.now t) (sym (held_start _ x _ c.now));
      }

  -- ---- M: L is neutral, so T and B are 0
  neutral_idle : c.levers.updown ≡ 0 → (c.levers.time ≡ 0) × (c.levers.base ≡ 0)
  neutral_idle l = g.lever_idle (and_right c.cruise.on _ (not_of_true _ (eq-eqb _ _ l)))

  pub neutral_free : c.levers.updown ≡ 0 → (on : Bool) → (on && not (eqb c.levers.updown 0)) ≡ true → ⊥
  neutral_free l on t = no (sym t ∙ and_right on _ (not_of_true _ (eq-eqb _ _ l)))

  foreback_good : (y : ℕ) → y ≤ 2 → (y ≡ 2 → ⊥) → c.levers.updown ≡ 0 → Good (with_foreback c y)
  unfolding with_foreback with_levers
  foreback_good y h m l =
      let r = g.ranges in
      record {
        ranges = search r.manual_low;
        lever_idle = g.lever_idle;
        lever_time = g.lever_time;
        one_pedal = g.one_pedal;
        off = λ k. let o = g.off k in search (arith);
        one_lever = λ u. omega arith;
        cruise_on = λ t. let k = g.cruise_on t in record { brake = k.brake; lever = m; low = k.low; high = k.high };
        limiter_on = g.limiter_on;
        button_in = λ t. ((g.button_in t).0, m);
        not_ready = g.not_ready;
        ready = g.ready;
        tested = g.tested;
        hold = g.hold;
      }

  engaged_good : (d : ℕ) → 1 ≤ d → d ≤ ceiling_of c.settings → c.key ≡ 2 → c.pedals.brake ≡ 0 → c.levers.updown ≡ 0 → (c.levers.foreback ≡ 2 → ⊥) → Good (engaged c d)
  unfolding engaged with_cruise
  engaged_good d low high k b l m =
      let r = g.ranges in
      record {
        ranges = search (r.manual_low, arith);
        lever_idle = λ _. neutral_idle l;
        lever_time = g.lever_time;
        one_pedal = g.one_pedal;
        off = λ q. absurd (q k);
        one_lever = λ u. omega arith;
        cruise_on = λ t. record { brake = b; lever = m; low = low; high = high };
        limiter_on = g.limiter_on;
        button_in = λ t. (k, m);
        not_ready = g.not_ready;
        ready = g.ready;
        tested = g.tested;
        hold = λ t. absurd (neutral_free l true t);
      }

  start_desired_le : start_desired c ≤ ceiling_of c.settings
  unfolding start_desired
  start_desired_le = pick_le _ _ _ _ (omega arith) g.ranges.desired

  start_desired_pos : (c.cruise.on || leb 200 c.speed || ltb 0 c.cruise.desired) ≡ true → 1 ≤ start_desired c
  unfolding start_desired
  start_desired_pos h =
      pick_case (λ (n : ℕ). 1 ≤ n) (eqb c.cruise.desired 0) _ _
      (λ t. let z = eqb-true _ _ t in let low = ceiling_low c.settings in go c.cruise.on (leb 200 c.speed) refl refl z low h)
      (λ t. let z = eqb-false c.cruise.desired 0 t in omega arith)
    where
      go : (p q : Bool) → c.cruise.on ≡ p → leb 200 c.speed ≡ q → c.cruise.desired ≡ 0 → 10 ≤ ceiling_of c.settings
          → (p || q || ltb 0 c.cruise.desired) ≡ true → 1 ≤ min (ceiling_of c.settings) c.speed
      go true q e f z low h = let k = g.cruise_on e in let l = k.low in absurd (omega arith)
      go false true e f z low h = let k = leb-true 200 c.speed f in omega arith
      go false false e f z low h = let k = ltb-true 0 c.cruise.desired h in absurd (omega arith)

  engages_parts : engages c ≡ true
      → (c.key ≡ 2) × (c.pedals.brake ≡ 0) × ((c.cruise.on || leb 200 c.speed || ltb 0 c.cruise.desired) ≡ true)
  unfolding engages
  engages_parts t = search (and_l, and_r, eqb-true)

  forward_good : c.levers.updown ≡ 0 → (c.levers.foreback ≡ 2 → ⊥) → Good (forward c)
  unfolding forward
  forward_good l m =
      pick_case Good (engages c) _ _
      (λ t. let p = engages_parts t in engaged_good _ (start_desired_pos p.2) start_desired_le p.0 p.1 l m)
      (λ _. g)

  pub cruise_off_good : Good (cruise_off c)
  unfolding cruise_off with_cruise with_levers
  cruise_off_good =
      let r = g.ranges in
      record {
        ranges = search (r.manual_low, arith);
        lever_idle = λ _. (refl, refl);
        lever_time = omega arith;
        one_pedal = g.one_pedal;
        off = λ k. let o = g.off k in search (arith);
        one_lever = g.one_lever;
        cruise_on = λ e. no (sym e);
        limiter_on = g.limiter_on;
        button_in = g.button_in;
        not_ready = g.not_ready;
        ready = g.ready;
        tested = g.tested;
        hold = λ e. no (sym e);
      }

  backward_good : (y : ℕ) → y ≤ 2 → c.levers.updown ≡ 0 → Good (backward (with_foreback c y))
  unfolding backward cruise_off with_foreback with_cruise with_levers with_limiter
  backward_good y h l =
      let r = g.ranges in
      record {
        ranges = search (r.manual_low, arith);
        lever_idle = λ _. (refl, refl);
        lever_time = omega arith;
        one_pedal = g.one_pedal;
        off = λ k. let o = g.off k in search (arith);
        one_lever = λ u. omega arith;
        cruise_on = λ e. no (sym e);
        limiter_on = λ e. no (sym e);
        button_in = λ e. no (sym e);
        not_ready = g.not_ready;
        ready = g.ready;
        tested = g.tested;
        hold = λ e. no (sym e);
      }

  -- ---- the pedals
  pub pedal_good : (b a : ℕ) → b ≤ pedal_ceiling → a ≤ pedal_ceiling → (1 ≤ b → a ≡ 0) → c.key ≡ 2 → (c.cruise.on ≡ true → b ≡ 0) → (c.limiter.on ≡ true → a ≤ 90)
      → Good (with_pedals c (record { brake = b; gas = a }))
  unfolding with_pedals
  pedal_good b a hb ha one k cruise limiter =
      let r = g.ranges in
      record {
        ranges = search r.manual_low;
        lever_idle = g.lever_idle;
        lever_time = g.lever_time;
        one_pedal = one;
        off = λ q. absurd (q k);
        one_lever = g.one_lever;
        cruise_on = λ t. let k = g.cruise_on t in record { brake = cruise t; lever = k.lever; low = k.low; high = k.high };
        limiter_on = λ t. let k = g.limiter_on t in record { button = k.button; gas = limiter t; speed = k.speed };
        button_in = g.button_in;
        not_ready = g.not_ready;
        ready = g.ready;
        tested = g.tested;
        hold = g.hold;
      }

  pub limiter_good : (h s : Bool) (z : ℕ) → z ≤ speed_ceiling → c.key ≡ 2 → (s ≡ true → (h ≡ true) × (c.pedals.gas ≤ 90) × (c.speed ≤ z)) → (h ≡ true → c.levers.foreback ≡ 2 → ⊥)
      → Good (with_limiter c (record { button = h; on = s; limit = z }))
  unfolding with_limiter
  limiter_good h s z hz k on in' =
      let r = g.ranges in
      record {
        ranges = search r.manual_low;
        lever_idle = g.lever_idle;
        lever_time = g.lever_time;
        one_pedal = g.one_pedal;
        off = λ q. absurd (q k);
        one_lever = g.one_lever;
        cruise_on = g.cruise_on;
        limiter_on = λ t. let k = on t in record { button = k.0; gas = k.1; speed = k.2 };
        button_in = λ t. (k, in' t);
        not_ready = g.not_ready;
        ready = g.ready;
        tested = g.tested;
        hold = g.hold;
      }

  pub gap_good : (n : ℕ) → permitted_gap n ≡ true → Good (with_gap c n)
  unfolding with_gap
  gap_good n h =
      let r = g.ranges in
      record {
        ranges = search r.manual_low;
        lever_idle = g.lever_idle;
        lever_time = g.lever_time;
        one_pedal = g.one_pedal;
        off = λ k. let o = g.off k in search (arith);
        one_lever = g.one_lever;
        cruise_on = g.cruise_on;
        limiter_on = g.limiter_on;
        button_in = g.button_in;
        not_ready = g.not_ready;
        ready = g.ready;
        tested = g.tested;
        hold = g.hold;
      }

  -- ---- a sign: cruise is on where it acts
  sign_gives_pos : (s d e : ℕ) → 200 ≤ s → 1 ≤ d → 1 ≤ sign_gives s d e
  unfolding sign_gives
  sign_gives_pos s d e h low =
      le_pick _ _ _ _ (omega arith)
      (le_pick _ _ _ _ (omega arith)
      (pick_case (λ (n : ℕ). 1 ≤ n) (ltb 0 e) _ _ (λ u. let k = ltb-true 0 e u in omega arith) (λ _. low)))

  sign_desired_pos : (top s d e : ℕ) → 10 ≤ top → 1 ≤ d → 1 ≤ sign_desired top s d e
  unfolding sign_desired
  sign_desired_pos top s d e l low =
      pick_case (λ (n : ℕ). 1 ≤ n) (ltb s 200) _ _ (λ _. low)
      (λ t. let k = sign_gives_pos s d e (ltb-false s 200 t) low in omega arith)

  sign_desired_le : (top s d e : ℕ) → d ≤ top → sign_desired top s d e ≤ top
  unfolding sign_desired
  sign_desired_le top s d e h = pick_le _ _ _ _ h (omega arith)

  sign_after_le : (s : ℕ) → sign_after c s ≤ ceiling_of c.settings
  unfolding sign_after
  sign_after_le s = pick_le _ _ _ _ (sign_desired_le _ s _ _ g.ranges.desired) g.ranges.desired

  sign_after_pos : (s : ℕ) → c.cruise.on ≡ true → 1 ≤ sign_after c s
  unfolding sign_after
  sign_after_pos s e = let k = g.cruise_on e in le_pick _ _ _ _ (sign_desired_pos _ s _ _ (ceiling_low c.settings) k.low) k.low

  -- with the lever held no sign acts
  sign_waits : lever_held c ≡ true → sign_acts c ≡ true → ⊥
  unfolding sign_acts
  sign_waits t h =
      let l : not (eqb c.levers.updown 0) ≡ true = and_r c.cruise.on _ t in
      let m : eqb c.levers.updown 0 ≡ true = search (and_l, and_r) depth 12 in
      no (sym m ∙ not_is _ l)

  sign_after_held : (s : ℕ) → lever_held c ≡ true → sign_after c s ≡ c.cruise.desired
  unfolding sign_after
  sign_after_held s t = pick_false _ _ _ (refuted _ (sign_waits t))

  pub sign_good : (s : ℕ) → c.key ≡ 2 → Good (sign_passed c s)
  unfolding sign_passed with_cruise
  sign_good s k =
      let r = g.ranges in
      let d = sign_after_le s in
      record {
        ranges = search r.manual_low;
        lever_idle = g.lever_idle;
        lever_time = g.lever_time;
        one_pedal = g.one_pedal;
        off = λ q. absurd (q k);
        one_lever = g.one_lever;
        cruise_on = λ t. let k = g.cruise_on t in record { brake = k.brake; lever = k.lever; low = sign_after_pos s t; high = d };
        limiter_on = g.limiter_on;
        button_in = g.button_in;
        not_ready = g.not_ready;
        ready = g.ready;
        tested = g.tested;
        hold = λ t. sign_after_held s t ∙ g.hold t;
      }

  -- ---- a reading
  radar_good : (r : RangeRadar) → RadarGood c.key c.now r → Good (with_radar c r)
  unfolding with_radar
  radar_good x p =
      let r = g.ranges in
      record {
        ranges = search r.manual_low;
        lever_idle = g.lever_idle;
        lever_time = g.lever_time;
        one_pedal = g.one_pedal;
        off = λ k. let o = g.off k in let q = p.off k in search (arith);
        one_lever = g.one_lever;
        cruise_on = g.cruise_on;
        limiter_on = g.limiter_on;
        button_in = g.button_in;
        not_ready = p.not_ready;
        ready = p.ready;
        tested = p.tested;
        hold = g.hold;
      }

  pub reading_good : (range speed : ℕ) → range ≤ 254 → speed ≤ speed_ceiling → c.key ≡ 2 → c.radar.ready ≡ true → Good (reading_taken c range speed)
  unfolding reading_taken
  reading_good range speed hr hs k p =
      let r = g.ranges in
      radar_good _ (record {
        range = omega arith;
        lead = hs;
        earlier = r.lead;
        tested_range = r.tested;
        not_ready = λ e. no (sym p ∙ e);
        ready = λ _. omega arith;
        tested = g.tested;
        off = λ q. absurd (q k);
      })

-- ---- M: forward from the car with its lever moved, which is good; backward leaves a good car too
pub moved_foreback_good : (c : Car) → Good c → (y : ℕ) → y ≤ 2 → c.levers.updown ≡ 0 → Good (fore_back_moved c y)
unfolding fore_back_moved with_foreback with_levers
moved_foreback_good c g y h l =
    pick_case Good (eqb y 1) _ _
    (λ t. let e = eqb-true y 1 t in let m : (y ≡ 2 → ⊥) = omega arith in forward_good _ (foreback_good c g y h m l) l m)
    (λ _. pick_case Good (eqb y 2) _ _ (λ _. backward_good c g y h l) (λ t. foreback_good c g y h (eqb-false _ _ t) l))

-- ---- the tick
range_after_ready : (ready : Bool) (r : ℕ) → ready ≡ true → range_after ready r ≡ 255 → ⊥
unfolding range_after
range_after_ready ready r e =
    simp (pick_false, e)
    (pick_case (λ (n : ℕ). n ≡ 255 → ⊥) (eqb r 255) _ _ (λ _. omega arith) (λ t. eqb-false r 255 t))

range_after_le : (ready : Bool) (r : ℕ) → r ≤ 255 → range_after ready r ≤ 255
unfolding range_after
range_after_le ready r h = pick_le _ _ _ _ (omega arith) (pick_le _ _ _ _ (omega arith) h)

range_after_not : (ready : Bool) (r : ℕ) → ready ≡ false → range_after ready r ≡ 255
unfolding range_after
range_after_not ready r e = simp (pick_true, e)

module _ (c : Car) (g : Good c) (end : c.now < lesson_length) where
  radar_after_good : (ready : Bool) → RadarGood c.key (c.now + 1) (radar_after c ready)
  unfolding radar_after radar_tested test_due
  radar_after_good ready =
      let r = g.ranges in
      pick_case (RadarGood c.key (c.now + 1)) (test_due c) _ _
      (λ t. record {
        range = range_after_le ready _ r.range;
        lead = r.lead;
        earlier = r.earlier;
        tested_range = omega arith;
        not_ready = range_after_not ready _;
        ready = range_after_ready ready _;
        tested = λ _. omega arith;
        off = λ q. absurd (q (eqb-true _ _ (and_l (eqb c.key 2) (eqb (c.now + 1) (c.radar.tested + test_period)) t)));
      })
      (λ t. record {
        range = r.range;
        lead = r.lead;
        earlier = r.earlier;
        tested_range = r.tested;
        not_ready = g.not_ready;
        ready = g.ready;
        tested = λ k. let w = g.tested k in let d = not_due k t in omega arith;
        off = λ q. let o = g.off q in (o.ready, o.lead, o.earlier, o.tested, o.range);
      })
    where
      not_due : c.key ≡ 2 → (eqb c.key 2 && eqb (c.now + 1) (c.radar.tested + test_period)) ≡ false → c.now + 1 ≡ c.radar.tested + test_period → ⊥
      not_due k t = eqb-false _ _ (simp k at t)

  hold_desired_le : (h : ℕ) → hold_desired c h ≤ ceiling_of c.settings
  unfolding hold_desired
  hold_desired_le h =
      pick_le _ _ _ _ (long_held_le _ (ceiling_low c.settings) _ _ h g.ranges.base) g.ranges.desired

  hold_desired_pos : (h : ℕ) → c.cruise.on ≡ true → 1 ≤ hold_desired c h
  unfolding hold_desired
  hold_desired_pos h e =
      pick_case (λ (n : ℕ). 1 ≤ n) (not (eqb c.levers.updown 0) && leb 2 h) _ _
      (λ t. long_held_pos _ (ceiling_low c.settings) _ _ h (leb-true 2 h (and_r (not (eqb c.levers.updown 0)) _ t)))
      (λ _. (g.cruise_on e).low)

  tick_desired_le : tick_desired c ≤ ceiling_of c.settings
  unfolding tick_desired
  tick_desired_le = pick_le _ _ _ _ (hold_desired_le _) g.ranges.desired

  tick_desired_pos : c.cruise.on ≡ true → 1 ≤ tick_desired c
  unfolding tick_desired
  tick_desired_pos e = le_pick _ _ _ _ (hold_desired_pos _ e) (g.cruise_on e).low

  tick_desired_off : Off c → tick_desired c ≡ 0
  unfolding tick_desired
  tick_desired_off o = pick_false _ _ _ o.cruise ∙ o.desired

  -- (f) over a tick: h grows by one
  hold_tick : lever_held c ≡ true
      → tick_desired c ≡ held (ceiling_of c.settings) c.levers.updown c.levers.base (c.now + 1 - c.levers.time)
  unfolding tick_desired hold_desired
  hold_tick t =
      let p : c.cruise.on ≡ true = and_l _ (not (eqb c.levers.updown 0)) t in
      let q : not (eqb c.levers.updown 0) ≡ true = and_r c.cruise.on _ t in
      let h = c.now + 1 - c.levers.time in
      pick_true _ _ _ p
      ∙ pick_case (λ (n : ℕ). n ≡ held (ceiling_of c.settings) c.levers.updown c.levers.base (c.now + 1 - c.levers.time))
      (not (eqb c.levers.updown 0) && leb 2 (c.now + 1 - c.levers.time)) _ _
      (λ u. sym (held_late _ _ _ _ (leb-true 2 (c.now + 1 - c.levers.time) (and_r (not (eqb c.levers.updown 0)) _ u))))
      (λ u.
      let e = leb-false 2 (c.now + 1 - c.levers.time) (sym (and_next _ _ q) ∙ u) in
      g.hold t ∙ held_early _ _ _ (c.now - c.levers.time) (omega arith) ∙ sym (held_early _ _ _ _ e))

  tick_speed_le : (d : ℕ) → tick_speed c d ≤ speed_ceiling
  unfolding tick_speed
  tick_speed_le d = at_most_le _ _ _ _ (at_most_le _ _ _ _ (moved_le _ _))

  tick_speed_limit : (d : ℕ) → c.limiter.on ≡ true → tick_speed c d ≤ c.limiter.limit
  unfolding tick_speed
  tick_speed_limit d e = at_most_le _ _ _ _ (at_most_cap _ _ _ e)

  -- (g) v moves by no more than a second's change, up and down apart
  pub tick_speed_up : (down up d : ℕ) → Banded down up (change (acceleration_of c)) → tick_speed c d ≤ c.speed + up
  unfolding tick_speed
  tick_speed_up down up d h = at_most_le _ _ _ _ (at_most_le _ _ _ _ (moved_up _ down up _ h))

  pub tick_speed_down : (down up d : ℕ) → Banded down up (change (acceleration_of c)) → c.speed - down ≤ tick_speed c d
  unfolding tick_speed holds_desired
  tick_speed_down down up d h =
      le_at_most _ _ _ _
      (le_at_most _ _ _ _ (moved_down _ down up _ h g.ranges.speed) (λ t. let k = (g.limiter_on t).speed in omega arith))
      (λ t. let k = leb-true c.speed d (and_r (c.cruise.on && eqb c.pedals.gas 0) _ t) in omega arith)

  -- with the key off nothing moves
  tick_speed_off : (d : ℕ) → Off c → (c.key ≡ 2 → ⊥) → tick_speed c d ≡ 0
  unfolding acceleration_of
  tick_speed_off d o k =
      let a : acceleration_of c ≡ speeding 0 = pick_true _ _ _ (not_of_false _ (ne_eqb _ _ k)) in
      let h = tick_speed_up 0 0 d (rw a change_none) in
      omega (arith, o.speed)

  pub tick_good : (ready : Bool) → Good (ticked c ready)
  unfolding ticked
  tick_good ready =
      let r = g.ranges in
      let p = radar_after_good ready in
      let d = tick_desired_le in
      let v = tick_speed_le (tick_desired c) in
      record {
        ranges = search (r.manual_low, arith);
        lever_idle = g.lever_idle;
        lever_time = omega (arith, g.lever_time);
        one_pedal = g.one_pedal;
        off = λ k.
            let o = g.off k in
            let q = p.off k in
            let z = tick_speed_off (tick_desired c) o k in
            let y = tick_desired_off o in
            search (arith);
        one_lever = g.one_lever;
        cruise_on = λ t. let k = g.cruise_on t in record { brake = k.brake; lever = k.lever; low = tick_desired_pos t; high = d };
        limiter_on = λ t. let k = g.limiter_on t in record { button = k.button; gas = k.gas; speed = tick_speed_limit (tick_desired c) t };
        button_in = g.button_in;
        not_ready = p.not_ready;
        ready = p.ready;
        tested = p.tested;
        hold = hold_tick;
      }
