-- Checks and rules go with a shifted clock, event by event: only check 16 looks at the clock itself.
-- Assumes nothing.
use Rattle.std.specs.Prelude.{Bool, true, false, ◌≡◌, refl, ◌&&◌, not, ℕ, ◌+◌, ◌-◌, ◌≤◌, eqb, leb, ltb}
use Rattle.std.specs.Bool.{beq}
use Rattle.std.proofs.Common.{arith, eqb-true, eq-eqb, ne_eqb, leb-true}
use Rattle.std.proofs.lemmas.Bool.{eqb-false}
use borrow.Author.Tests.{leb-false}
use Rattle.kit.specs.Answer.{Answer, gives, refused}
use Rattle.kit.specs.Bounds.{lesson_length, test_period}
use Rattle.kit.specs.Pick.{pick, and_l, either}
use Rattle.checks.specs.Checks.{tick_check}
use Rattle.checks.proofs.CheckLaws.{foreback_passed}
use Rattle.event.specs.declared.Input.{Input}
use Rattle.event.specs.declared.Input.TheVariants.{Key, UpDown, ForeBack, Brake, Gas, Button, Gap, Sign, Radar}
use Rattle.event.specs.declared.Event.{Event}
use Rattle.event.specs.declared.Event.TheVariants as event
use Rattle.event.specs.Words.{input_kind, read_of}
use Rattle.car.specs.declared.Car.{Car}
use Rattle.car.specs.Acceleration.{target_of, acceleration_of}
use Rattle.car.specs.Car.{with_levers, with_pedals, with_limiter, with_cruise, with_radar, with_gap}
use Rattle.car.specs.Checks.{own_check, input_check, event_check}
use Rattle.car.specs.Distance.{secure_distance, ahead, within, close}
use Rattle.car.specs.Drive.{input_next, event_next, reading_check, check_of, reading_next, next_of, chosen, step_of, reads, is_tick}
use Rattle.car.specs.Rules.{key_radar, key_turned, lever_desired, while_held, up_down_moved, with_foreback, engages, start_desired, engaged, forward, cruise_off, backward, fore_back_moved, brake_pressed, gas_pressed, button_pressed, sign_acts, sign_after, sign_passed, reading_taken, test_due, radar_tested, radar_after, hold_desired, tick_desired, holds_desired, tick_speed, ticked}
use Rattle.alike.proofs.Shift.{timed, along, shift}

-- the refusals m and n of one word, 0 for none, to cars whose clocks show s and t: one number, or 16 for a tick to the one alone whose clock
-- stands at its end
pub data Refusals (tick : Bool) (m n s t : ℕ) : Type 0 where
  same : m ≡ n → Refusals tick m n s t
  first : tick ≡ true → m ≡ 16 → s ≡ lesson_length → n ≡ 0 → Refusals tick m n s t
  second : tick ≡ true → n ≡ 16 → t ≡ lesson_length → m ≡ 0 → Refusals tick m n s t

eqb_along : (a b n : ℕ) → eqb (a + n + 1) (b + n + test_period) ≡ eqb (a + 1) (b + test_period)
eqb_along a b n =
    either (eqb (a + 1) (b + test_period))
    (λ e. let h = eqb-true (a + 1) (b + test_period) e in rw e (eq-eqb (a + n + 1) (b + n + test_period) (omega arith)))
    (λ e. let h = eqb-false (a + 1) (b + test_period) e in rw e (ne_eqb (a + n + 1) (b + n + test_period) (λ q. h (omega arith))))

module _ (n : ℕ) (c : Car) where
  -- ---- the rules one by one
  key_shift : (p : ℕ) (ready : Bool) → key_turned (shift n c) p ready ≡ shift n (key_turned c p ready)
  unfolding key_turned key_radar shift timed along pick
  key_shift p ready = either (eqb p 2) (λ e. rw e) (λ e. rw e)

  updown_shift : (x : ℕ) → up_down_moved (shift n c) x ≡ shift n (up_down_moved c x)
  unfolding up_down_moved while_held lever_desired with_cruise with_levers shift timed along pick
  updown_shift x = either (c.cruise.on && not (eqb x 0)) (λ e. rw e) (λ e. rw e)

  -- forward finds L neutral, so that T does not begin to count
  foreback_shift : (y : ℕ) → eqb c.levers.updown 0 ≡ true → fore_back_moved (shift n c) y ≡ shift n (fore_back_moved c y)
  unfolding fore_back_moved forward engages start_desired engaged backward cruise_off with_foreback with_cruise with_levers with_limiter shift timed along pick
  foreback_shift y u =
      either (eqb y 1)
      (λ p. either (engages c) (λ r. either c.cruise.on (λ o. rw (p, r) (simp (o, u))) (λ o. rw (p, r) (simp (o, u)))) (λ r. rw (p, r)))
      (λ p. either (eqb y 2) (λ q. rw (p, q)) (λ q. rw (p, q)))

  brake_shift : (x : ℕ) → brake_pressed (shift n c) x ≡ shift n (brake_pressed c x)
  unfolding brake_pressed cruise_off with_cruise with_levers with_pedals shift timed along pick
  brake_shift x = either (ltb 0 x) (λ e. rw e) (λ e. rw e)

  gas_shift : (x : ℕ) → gas_pressed (shift n c) x ≡ shift n (gas_pressed c x)
  unfolding gas_pressed with_limiter with_pedals shift timed
  gas_shift x = refl

  button_shift : (z : ℕ) → button_pressed (shift n c) z ≡ shift n (button_pressed c z)
  unfolding button_pressed with_limiter shift timed
  button_shift z = refl

  gap_shift : (g : ℕ) → with_gap (shift n c) g ≡ shift n (with_gap c g)
  unfolding with_gap shift timed
  gap_shift g = refl

  sign_shift : (s : ℕ) → sign_passed (shift n c) s ≡ shift n (sign_passed c s)
  unfolding sign_passed sign_after sign_acts with_cruise shift timed
  sign_shift s = refl

  reading_shift : (range speed : ℕ) → reading_taken (shift n c) range speed ≡ shift n (reading_taken c range speed)
  unfolding reading_taken with_radar shift timed
  reading_shift range speed = refl

  -- ---- the tick
  due_shift : test_due (shift n c) ≡ test_due c
  unfolding test_due shift timed along pick
  due_shift = either (eqb c.key 2) (λ e. simp (e, eqb_along)) (λ e. simp e)

  due_on : test_due c ≡ true → eqb c.key 2 ≡ true
  unfolding test_due
  due_on e = and_l _ (eqb (c.now + 1) (c.radar.tested + test_period)) e

  held_for : c.now + n + 1 - (c.levers.time + n) ≡ c.now + 1 - c.levers.time
  held_for = omega arith

  desired_shift : tick_desired (shift n c) ≡ tick_desired c
  unfolding tick_desired hold_desired shift timed along pick
  desired_shift =
      either c.cruise.on
      (λ o. either (eqb c.levers.updown 0) (λ u. simp (o, u)) (λ u. simp (o, u, held_for)))
      (λ o. simp o)

  speed_shift : (d : ℕ) → tick_speed (shift n c) d ≡ tick_speed c d
  unfolding tick_speed holds_desired acceleration_of target_of close within ahead secure_distance shift timed
  speed_shift d = refl

  next_now : c.now + n + 1 ≡ c.now + 1 + n
  next_now = omega arith

  tick_shift : (ready : Bool) → ticked (shift n c) ready ≡ shift n (ticked c ready)
  unfolding ticked radar_after radar_tested shift timed along pick
  tick_shift ready =
      either (test_due c)
      (λ e. rw (desired_shift, speed_shift, due_shift, e, due_on e, next_now))
      (λ e. rw (desired_shift, speed_shift, due_shift, e, next_now))

  -- ---- an event: the rule of an accepted one, and the checks
  neutral : (y : ℕ) → input_check c (ForeBack y) ≡ 0 → eqb c.levers.updown 0 ≡ true
  unfolding input_check own_check input_kind pick
  neutral y h = eq-eqb _ _ (foreback_passed c.levers.foreback c.levers.updown y h).1

  input_shift : (i : Input) → input_check c i ≡ 0 → input_next (shift n c) i ≡ shift n (input_next c i)
  unfolding input_next
  input_shift (Key p ready) h = key_shift p ready
  input_shift (UpDown x) h = updown_shift x
  input_shift (ForeBack y) h = foreback_shift y (neutral y h)
  input_shift (Brake x) h = brake_shift x
  input_shift (Gas x) h = gas_shift x
  input_shift (Button z) h = button_shift z
  input_shift (Gap g) h = gap_shift g
  input_shift (Sign s) h = sign_shift s
  input_shift (Radar range speed) h = reading_shift range speed

  event_shift : (e : Event) → event_check c e ≡ 0 → event_next (shift n c) e ≡ shift n (event_next c e)
  unfolding event_next event_check
  event_shift (event.Input i) h = input_shift i h
  event_shift (event.Tick ready) h = tick_shift ready

  input_refusals : (i : Input) → input_check (shift n c) i ≡ input_check c i
  unfolding input_check own_check shift timed
  input_refusals (Key p ready) = refl
  input_refusals (UpDown x) = refl
  input_refusals (ForeBack y) = refl
  input_refusals (Brake x) = refl
  input_refusals (Gas x) = refl
  input_refusals (Button z) = refl
  input_refusals (Gap g) = refl
  input_refusals (Sign s) = refl
  input_refusals (Radar range speed) = refl

  -- check 16 behind check 15
  at_end : (t : Bool) → c.now + n ≤ lesson_length
      → Refusals true (pick t 15 (pick (leb lesson_length c.now) 16 0)) (pick t 15 (pick (leb lesson_length (c.now + n)) 16 0)) c.now (c.now + n)
  unfolding pick
  at_end t h = go t (leb lesson_length c.now) (leb lesson_length (c.now + n)) refl refl
    where
      go : (t p q : Bool) → leb lesson_length c.now ≡ p → leb lesson_length (c.now + n) ≡ q → Refusals true (pick t 15 (pick p 16 0)) (pick t 15 (pick q 16 0)) c.now (c.now + n)
      go true p q e f = same refl
      go false true true e f = same refl
      go false true false e f = let k = leb-true lesson_length c.now e in let l = leb-false lesson_length (c.now + n) f in absurd (omega arith)
      go false false true e f = let k = leb-true lesson_length (c.now + n) f in second refl refl (omega arith) refl
      go false false false e f = same refl

  event_refusals : (e : Event) → c.now + n ≤ lesson_length → Refusals (is_tick e) (event_check c e) (event_check (shift n c) e) c.now (c.now + n)
  unfolding event_check tick_check is_tick shift timed
  event_refusals (event.Input i) h = same (rw (input_refusals i))
  event_refusals (event.Tick ready) h = rw due_shift (at_end (not (beq ready c.radar.ready) && not (test_due c)) h)

  -- ---- a word
  pub word_refusals : (w : ℕ) → c.now + n ≤ lesson_length → Refusals (reads is_tick (read_of w)) (check_of c w) (check_of (shift n c) w) c.now (c.now + n)
  unfolding check_of reading_check reads
  word_refusals w h = go (read_of w)
    where
      go : (r : Answer Event) → Refusals (reads is_tick r) (reading_check c r) (reading_check (shift n c) r) c.now (c.now + n)
      go (refused k) = same refl
      go (gives e) = event_refusals e h

  word_next : (w : ℕ) → check_of c w ≡ 0 → next_of (shift n c) w ≡ shift n (next_of c w)
  unfolding check_of next_of reading_check reading_next
  word_next w h = go (read_of w) h
    where
      go : (r : Answer Event) → reading_check c r ≡ 0 → reading_next (shift n c) r ≡ shift n (reading_next c r)
      go (refused k) z = refl
      go (gives e) z = event_shift e z

  -- both accept, or both refuse
  pub step_shift : (w : ℕ) → eqb (check_of c w) 0 ≡ eqb (check_of (shift n c) w) 0 → (step_of (shift n c) w).car ≡ shift n (step_of c w).car
  unfolding step_of chosen pick
  step_shift w h = either (eqb (check_of c w) 0) (λ e. rw (← h, e) (word_next w (eqb-true _ _ e))) (λ e. rw (← h, e))
