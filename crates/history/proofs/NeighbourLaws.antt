-- An accepted event and its neighbouring cars, from every good car.
-- Assumes nothing.
use Rattle.std.specs.Prelude.{Bool, true, false, ◌&&◌, ◌||◌, ◌≡◌, refl, ℕ, ◌≤◌, ◌<◌, eqb, leb, ltb}
use Rattle.std.proofs.Common.{sym, ◌∙◌, ap, arith, eqb-true, eq-eqb, le-leb}
use Rattle.kit.specs.Bounds.{lesson_length, most_rise, most_fall}
use Rattle.kit.specs.Pick.{pick, pick_case, and_l, and_both, or_left, or_right, no}
use Rattle.event.specs.declared.Input.{Input}
use Rattle.event.specs.declared.Input.TheVariants.{Key, UpDown, ForeBack, Brake, Gas, Button, Gap, Sign, Radar}
use Rattle.event.specs.declared.Event.{Event}
use Rattle.event.specs.declared.Event.TheVariants as event
use Rattle.event.specs.Words.{input_kind}
use Rattle.checks.specs.Checks.{up_down_skips, up_down_check, fore_back_skips, fore_back_check}
use Rattle.checks.proofs.CheckLaws.{key_passed, updown_passed, foreback_passed, tick_passed}
use Rattle.car.specs.declared.Car.{Car}
use Rattle.car.specs.declared.Levers.{Levers}
use Rattle.car.proofs.AccelerationLaws.{change_size}
use Rattle.car.specs.Car.{with_levers, with_pedals, with_limiter, with_cruise, with_radar, with_gap}
use Rattle.car.specs.Checks.{own_check, input_check, event_check}
use Rattle.car.specs.Drive.{input_next, event_next, is_tick}
use Rattle.car.specs.Good.{lever_held}
use Rattle.car.proofs.KeepLaws.{tick_speed_up, tick_speed_down, while_held_held, neutral_free}
use Rattle.car.specs.Rules.{key_turned, lever_desired, up_down_moved, with_foreback, engages, engaged, forward, cruise_off, backward, fore_back_moved, brake_pressed, gas_pressed, button_pressed, sign_passed, reading_taken, tick_desired, ticked}
use Rattle.car.specs.Standing.{Good}
use Rattle.history.specs.Neighbours.{input_lever, is_lever, Neighbours}

skips_forward : (a b : ℕ) → a ≡ 1 → b ≡ 2 → fore_back_skips a b ≡ false → ⊥
unfolding fore_back_skips
skips_forward a b p q h = no (sym (or_left _ (eqb a 2 && eqb b 1) (and_both (eqb a 1) (eqb b 2) (eq-eqb _ _ p) (eq-eqb _ _ q))) ∙ h)

skips_backward : (a b : ℕ) → a ≡ 2 → b ≡ 1 → fore_back_skips a b ≡ false → ⊥
unfolding fore_back_skips
skips_backward a b p q h = no (sym (or_right (eqb a 1 && eqb b 2) _ (and_both (eqb a 2) (eqb b 1) (eq-eqb _ _ p) (eq-eqb _ _ q))) ∙ h)

skips_down : (a b : ℕ) → 1 ≤ a → a ≤ 2 → 3 ≤ b → up_down_skips a b ≡ false → ⊥
unfolding up_down_skips
skips_down a b p q r h =
    no (sym (or_left (leb 1 a && leb a 2 && leb 3 b) (leb 3 a && leb 1 b && leb b 2) (search (and_both, le-leb))) ∙ h)

skips_up : (a b : ℕ) → 3 ≤ a → 1 ≤ b → b ≤ 2 → up_down_skips a b ≡ false → ⊥
unfolding up_down_skips
skips_up a b p q r h =
    no (sym (or_right (leb 1 a && leb a 2 && leb 3 b) (leb 3 a && leb 1 b && leb b 2) (search (and_both, le-leb))) ∙ h)

-- a lever that stays does not skip
foreback_stays : (a : ℕ) → fore_back_skips a a ≡ false
unfolding fore_back_skips
foreback_stays a = go (eqb a 1) (eqb a 2) refl refl
  where
    go : (p q : Bool) → eqb a 1 ≡ p → eqb a 2 ≡ q → (p && q || q && p) ≡ false
    go true true e f = let x = eqb-true a 1 e in let y = eqb-true a 2 f in absurd (omega arith)
    go true false e f = refl
    go false true e f = refl
    go false false e f = refl

-- an event that moves no up-down lever and no clock
other : (c : Car) (e : Event) (d : Car) → is_tick e ≡ false → is_lever e ≡ false → d.levers.updown ≡ c.levers.updown
    → fore_back_skips c.levers.foreback d.levers.foreback ≡ false → d.speed ≡ c.speed → d.now ≡ c.now
    → (lever_held d ≡ true → (lever_held c ≡ true) × (d.levers ≡ c.levers)) → Neighbours c e d
other c e d t l u m v n k = record {
  neighbouring = record {
    up_down = λ p q r. omega arith;
    down_up = λ p q r. omega arith;
    forward_backward = λ p q. skips_forward _ _ p q m;
    backward_forward = λ p q. skips_backward _ _ p q m;
    speed_tick = λ x. no (sym x ∙ t);
    speed_other = λ _. v;
  };
  clock_tick = λ x. no (sym x ∙ t);
  clock_other = λ _. n;
  lever_out = λ x. no (sym x ∙ l);
  lever_kept = λ _. k;
}

-- one that moves no lever at all, and turns cruise on for no car
still : (c : Car) (e : Event) (d : Car) → is_tick e ≡ false → is_lever e ≡ false → d.levers ≡ c.levers → d.speed ≡ c.speed → d.now ≡ c.now
    → d.cruise.on ≡ c.cruise.on → Neighbours c e d
still c e d t l s v n on =
    let u = ap (λ (x : Levers). x.updown) s in
    let m = ap (λ (x : Levers). x.foreback) s in
    other c e d t l u (rw m (foreback_stays c.levers.foreback)) v n (λ h. (rw (on, u) at h, s))

-- one that turns cruise off
off_now : (c : Car) (e : Event) (d : Car) → is_tick e ≡ false → is_lever e ≡ false → d.levers.updown ≡ c.levers.updown
    → fore_back_skips c.levers.foreback d.levers.foreback ≡ false → d.speed ≡ c.speed → d.now ≡ c.now
    → d.cruise.on ≡ false → Neighbours c e d
off_now c e d t l u m v n on = other c e d t l u m v n (λ h. no (sym (and_l d.cruise.on _ h) ∙ on))

brake_neighbours : (c : Car) (x : ℕ) → Neighbours c (event.Input (Brake x)) (brake_pressed c x)
unfolding brake_pressed cruise_off with_pedals with_cruise with_levers is_tick is_lever input_lever
brake_neighbours c x =
    pick_case (Neighbours c (event.Input (Brake x))) (ltb 0 x) _ _
    (λ _. off_now c (event.Input (Brake x)) _ refl refl refl (foreback_stays c.levers.foreback) refl refl refl)
    (λ _. still c (event.Input (Brake x)) _ refl refl refl refl refl refl)

-- what a move of the fore-back lever leaves, and where it puts the lever
record ForeBacked (c : Car) (y : ℕ) (d : Car) : Type 0 where
  pub updown : d.levers.updown ≡ c.levers.updown
  pub foreback : d.levers.foreback ≡ y
  pub speed : d.speed ≡ c.speed
  pub now : d.now ≡ c.now

forebacked : (c : Car) (y : ℕ) → ForeBacked c y (fore_back_moved c y)
unfolding fore_back_moved forward backward cruise_off engaged with_foreback with_levers with_cruise with_limiter
forebacked c y =
    pick_case (ForeBacked c y) (eqb y 1) _ _
    (λ _. pick_case (ForeBacked c y) (engages (with_foreback c y)) _ _
    (λ _. record { updown = refl; foreback = refl; speed = refl; now = refl })
    (λ _. record { updown = refl; foreback = refl; speed = refl; now = refl }))
    (λ _. pick_case (ForeBacked c y) (eqb y 2) _ _
    (λ _. record { updown = refl; foreback = refl; speed = refl; now = refl })
    (λ _. record { updown = refl; foreback = refl; speed = refl; now = refl }))

foreback_neighbours : (c : Car) (y : ℕ) → Good c → fore_back_check c.levers.foreback c.levers.updown y ≡ 0 → Neighbours c (event.Input (ForeBack y)) (fore_back_moved c y)
unfolding is_tick is_lever input_lever
foreback_neighbours c y g h =
    let p = foreback_passed _ _ y h in
    let q = forebacked c y in
    other c (event.Input (ForeBack y)) _ refl refl q.updown (rw q.foreback p.0) q.speed q.now
    (λ t. absurd (neutral_free c g p.1 (fore_back_moved c y).cruise.on (rw q.updown at t)))

updown_neighbours : (c : Car) (x : ℕ) → up_down_check c.levers.updown c.levers.foreback x ≡ 0 → Neighbours c (event.Input (UpDown x)) (up_down_moved c x)
unfolding up_down_moved with_cruise with_levers is_tick is_lever input_lever
updown_neighbours c x h = let p = updown_passed _ _ x h in record {
  neighbouring = record {
    up_down = λ a b d. skips_down _ _ a b d p.0;
    down_up = λ a b d. skips_up _ _ a b d p.0;
    forward_backward = λ a b. omega arith;
    backward_forward = λ a b. omega arith;
    speed_tick = λ e. no (sym e);
    speed_other = λ _. refl;
  };
  clock_tick = λ e. no (sym e);
  clock_other = λ _. refl;
  lever_out = λ _ t. (while_held_held c.cruise.on x c.now t, while_held_held c.cruise.on x (lever_desired c x) t);
  lever_kept = λ e. no e;
}

tick_neighbours : (c : Car) (ready : Bool) → Good c → c.now < lesson_length → Neighbours c (event.Tick ready) (ticked c ready)
unfolding ticked is_tick is_lever input_lever
tick_neighbours c ready g h = record {
  neighbouring = record {
    up_down = λ a b d. omega arith;
    down_up = λ a b d. omega arith;
    forward_backward = λ a b. omega arith;
    backward_forward = λ a b. omega arith;
    speed_tick = λ _.
        let s = change_size c g.ranges in
        let u = tick_speed_up c g h most_fall most_rise (tick_desired c) s in
        let d = tick_speed_down c g h most_fall most_rise (tick_desired c) s in
        (omega arith, omega arith);
    speed_other = λ e. no e;
  };
  clock_tick = λ _. refl;
  clock_other = λ e. no e;
  lever_out = λ e. no (sym e);
  lever_kept = λ _ t. (t, refl);
}

input_neighbours : (c : Car) (i : Input) → Good c → input_check c i ≡ 0 → Neighbours c (event.Input i) (input_next c i)
unfolding input_check own_check input_kind pick input_next key_turned gas_pressed button_pressed sign_passed reading_taken with_pedals with_limiter with_cruise with_radar with_gap is_tick is_lever input_lever
input_neighbours c (Key k ready) g h =
    off_now c (event.Input (Key k ready)) _ refl refl refl (foreback_stays c.levers.foreback) (sym (key_passed _ _ k ready h)) refl refl
input_neighbours c (UpDown x) g h = updown_neighbours c x h
input_neighbours c (ForeBack y) g h = foreback_neighbours c y g h
input_neighbours c (Brake x) g h = brake_neighbours c x
input_neighbours c (Gas x) g h = still c (event.Input (Gas x)) _ refl refl refl refl refl refl
input_neighbours c (Button z) g h = still c (event.Input (Button z)) _ refl refl refl refl refl refl
input_neighbours c (Gap n) g h = still c (event.Input (Gap n)) _ refl refl refl refl refl refl
input_neighbours c (Sign s) g h = still c (event.Input (Sign s)) _ refl refl refl refl refl refl
input_neighbours c (Radar range speed) g h = still c (event.Input (Radar range speed)) _ refl refl refl refl refl refl

pub next_neighbours : (c : Car) (e : Event) → Good c → event_check c e ≡ 0 → Neighbours c e (event_next c e)
unfolding event_check event_next
next_neighbours c (event.Input i) g h = input_neighbours c i g h
next_neighbours c (event.Tick ready) g h = tick_neighbours c ready g (tick_passed _ _ _ ready h)
