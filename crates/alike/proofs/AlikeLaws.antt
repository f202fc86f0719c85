-- Alike as facts: two cars are alike when they differ in their times alone and the times that count lie as many seconds back. Alike is an
-- equivalence, of any cars; and good cars are alike exactly when one is the other with its clock shifted.
-- Assumes nothing.
use Rattle.std.specs.Prelude.{Bool, true, false, ◌↔◌, ◌≡◌, refl, ◌&&◌, ℕ, ◌+◌, ◌-◌, ◌≤◌, eqb, leb}
use Rattle.std.specs.Bool.{beq}
use Rattle.std.proofs.Common.{sym, ◌∙◌, ap, subst, arith, eqb-true, eq-eqb, leb-true}
use Rattle.std.proofs.lemmas.Bool.{eqb-false}
use borrow.Author.Tests.{leb-false}
use Rattle.kit.specs.Pick.{pick, pick_true, and_l, and_r, and_both, implied, implies_test, either}
use Rattle.car.specs.declared.Car.{Car}
use Rattle.car.specs.Good.{lever_held}
use Rattle.car.specs.Standing.{Good}
use Rattle.alike.specs.Alike.{positions_alike, numbers_alike, same_ago, times_alike, alike_of}
use Rattle.alike.proofs.Shift.{timed, along, shift}

beq_true : (p q : Bool) → beq p q ≡ true → p ≡ q
beq_true true true e = refl
beq_true true false e = sym e
beq_true false true e = e
beq_true false false e = refl

beq_self : (p : Bool) → beq p p ≡ true
beq_self true = refl
beq_self false = refl

eqb_self : (n : ℕ) → eqb n n ≡ true
eqb_self n = eq-eqb n n refl

-- all that is no time agrees; so do the seconds since T and Q, where they count
pub record Alike (a b : Car) : Type 0 where
  pub rest : timed a 0 0 0 ≡ timed b 0 0 0
  pub lever : lever_held a ≡ true → a.now + b.levers.time ≡ b.now + a.levers.time
  pub tested : a.key ≡ 2 → a.now + b.radar.tested ≡ b.now + a.radar.tested

-- ---- from the test to the facts
record Positions (a b : Car) : Type 0 where
  mode : a.settings.mode ≡ b.settings.mode
  signs : a.settings.signs ≡ b.settings.signs
  towing : a.settings.towing ≡ b.settings.towing
  key : a.key ≡ b.key
  updown : a.levers.updown ≡ b.levers.updown
  foreback : a.levers.foreback ≡ b.levers.foreback
  brake : a.pedals.brake ≡ b.pedals.brake
  gas : a.pedals.gas ≡ b.pedals.gas
  button : a.limiter.button ≡ b.limiter.button
  limiter : a.limiter.on ≡ b.limiter.on
  cruise : a.cruise.on ≡ b.cruise.on
  ready : a.radar.ready ≡ b.radar.ready

record Numbers (a b : Car) : Type 0 where
  speed : a.speed ≡ b.speed
  limit : a.limiter.limit ≡ b.limiter.limit
  desired : a.cruise.desired ≡ b.cruise.desired
  manual : a.cruise.manual ≡ b.cruise.manual
  base : a.levers.base ≡ b.levers.base
  range : a.radar.range ≡ b.radar.range
  lead : a.radar.lead ≡ b.radar.lead
  earlier : a.radar.earlier ≡ b.radar.earlier
  gap : a.gap ≡ b.gap

positions : (a b : Car) → positions_alike a b ≡ true → Positions a b
unfolding positions_alike
positions a b h = search (and_l, and_r, eqb-true, beq_true) depth 24 fits 4000

numbers : (a b : Car) → numbers_alike a b ≡ true → Numbers a b
unfolding numbers_alike
numbers a b h = search (and_l, and_r, eqb-true, beq_true) depth 24 fits 4000

rest_same : (a b : Car) → Positions a b → Numbers a b → timed a 0 0 0 ≡ timed b 0 0 0
unfolding timed
rest_same a b p n = cc

pub alike : (a b : Car) → alike_of a b ≡ true → Alike a b
unfolding alike_of times_alike same_ago
alike a b h =
    let f : (positions_alike a b && numbers_alike a b) ≡ true = and_l _ (times_alike a b) h in
    let t : times_alike a b ≡ true = and_r (positions_alike a b && numbers_alike a b) _ h in
    record {
      rest = rest_same a b (positions a b (and_l _ (numbers_alike a b) f)) (numbers a b (and_r (positions_alike a b) _ f));
      lever = λ e. search (implied, and_l, and_r, eqb-true);
      tested = λ e. let k = eq-eqb a.key 2 e in search (implied, and_l, and_r, eqb-true);
    }

-- ---- and back
same_self : (c : Car) → (positions_alike c c && numbers_alike c c) ≡ true
unfolding positions_alike numbers_alike
same_self c = simp (eqb_self, beq_self)

module _ (a b : Car) (e : Alike a b) where
  same_test : (positions_alike a b && numbers_alike a b) ≡ true
  unfolding positions_alike numbers_alike timed
  same_test = subst (λ (x : Car). (positions_alike a x && numbers_alike a x) ≡ true) e.rest (same_self a)

  pub alike_test : alike_of a b ≡ true
  unfolding alike_of times_alike same_ago
  alike_test =
      and_both _ _ same_test
      (and_both _ _ (implies_test _ _ (λ h. eq-eqb _ _ (e.lever h))) (implies_test _ _ (λ h. eq-eqb _ _ (e.tested (eqb-true _ _ h)))))

  held_same : lever_held a ≡ lever_held b
  unfolding timed
  held_same = ap (λ (c : Car). lever_held c) e.rest

  key_same : a.key ≡ b.key
  unfolding timed
  key_same = ap (λ (c : Car). c.key) e.rest

-- ---- an equivalence
self : (a : Car) → Alike a a
self a = record { rest = refl; lever = λ _. refl; tested = λ _. refl }

pub back : (a b : Car) → Alike a b → Alike b a
back a b e =
    record {
      rest = sym e.rest;
      lever = λ h. sym (e.lever (held_same a b e ∙ h));
      tested = λ h. sym (e.tested (key_same a b e ∙ h));
    }

on : (a b c : Car) → Alike a b → Alike b c → Alike a c
on a b c e f =
    record {
      rest = e.rest ∙ f.rest;
      lever = λ h. omega (arith, e.lever h, f.lever (sym (held_same a b e) ∙ h));
      tested = λ h. omega (arith, e.tested h, f.tested (sym (key_same a b e) ∙ h));
    }

pub alike_self : (a : Car) → alike_of a a ≡ true
alike_self a = alike_test a a (self a)

pub alike_back : (a b : Car) → alike_of a b ≡ true → alike_of b a ≡ true
alike_back a b e = alike_test b a (back a b (alike a b e))

pub alike_on : (a b c : Car) → alike_of a b ≡ true → alike_of b c ≡ true → alike_of a c ≡ true
alike_on a b c e f = alike_test a c (on a b c (alike a b e) (alike b c f))

-- ---- a shifted clock
pub shift_alike : (n : ℕ) (c : Car) → Alike c (shift n c)
unfolding shift timed along
shift_alike n c =
    record {
      rest = refl;
      lever = λ h. simp (h, pick_true) (omega arith);
      tested = λ h. simp (eq-eqb c.key 2 h, pick_true) (omega arith);
    }

-- of two alike good cars the later is the earlier, shifted
module _ (a b : Car) (g : Good a) (h : Good b) (e : Alike a b) (l : a.now ≤ b.now) where
  lever_along : along (lever_held a) (b.now - a.now) a.levers.time ≡ b.levers.time
  unfolding along pick
  lever_along =
      either (lever_held a) (λ q. rw q (omega (arith, e.lever q)))
      (λ q. rw q ((g.lever_idle q).0 ∙ sym (h.lever_idle (sym (held_same a b e) ∙ q)).0))

  tested_along : along (eqb a.key 2) (b.now - a.now) a.radar.tested ≡ b.radar.tested
  unfolding along pick
  tested_along =
      either (eqb a.key 2) (λ q. rw q (omega (arith, e.tested (eqb-true a.key 2 q))))
      (λ q. let n = eqb-false _ _ q in rw q ((g.off n).tested ∙ sym (h.off (λ k. n (key_same a b e ∙ k))).tested))

  now_along : a.now + (b.now - a.now) ≡ b.now
  now_along = omega arith

  shift_of : shift (b.now - a.now) a ≡ b
  unfolding shift timed
  shift_of = rw (lever_along, tested_along, now_along) (ap (λ (c : Car). timed c b.levers.time b.radar.tested b.now) e.rest)

-- one is the other, its clock shifted
pub data Shifted (a b : Car) : Type 0 where
  later : (n : ℕ) → shift n a ≡ b → Shifted a b
  earlier : (n : ℕ) → shift n b ≡ a → Shifted a b

pub shifted : (a b : Car) → Good a → Good b → Alike a b → Shifted a b
shifted a b g h e =
    either (leb a.now b.now)
    (λ q. later _ (shift_of a b g h e (leb-true _ _ q)))
    (λ q. let l = leb-false a.now b.now q in earlier _ (shift_of b a h g (back a b e) (omega arith)))

shifted_test : (a b : Car) → Shifted a b → alike_of a b ≡ true
shifted_test a b (later n q) = alike_test a b (rw (← q) (shift_alike n a))
shifted_test a b (earlier n q) = alike_test a b (rw (← q) (back _ _ (shift_alike n b)))

-- what is listed is the whole of a good car but for now
pub alike_exactly : (a b : Car) → Good a → Good b → (alike_of a b ≡ true) ↔ Shifted a b
alike_exactly a b g h = (λ e. shifted a b g h (alike a b e), shifted_test a b)
