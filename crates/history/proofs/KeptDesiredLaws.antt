-- D is kept until a word renews it or the key is turned (document 02, §4), proved: one lemma for an event, one for a word, then list inductions.
-- Assumes nothing.
use Rattle.std.specs.Prelude.{Bool, true, ◌&&◌, ◌||◌, ◌≡◌, ℕ, ◌+◌, ◌-◌, min, eqb, ltb}
use Rattle.std.proofs.Math.Bool.{false}
use Rattle.std.proofs.Math.Path.{refl}
use Rattle.std.proofs.Common.{sym, ◌∙◌, arith}
use mathlib.Core.List.{List, [], ◌∷◌, ◌++◌}
use borrow.Author.Tests.{eq-eqb, ne_eqb, le-ltb, lt-ltb, leb-true, leb-false}
use Rattle.kit.specs.Pick.{pick, pick_true, pick_false, either, and_l, and_r, and_left, not_is, no}
use Rattle.event.specs.declared.Input.{Input}
use Rattle.event.specs.declared.Input.TheVariants.{Key, UpDown, ForeBack, Brake, Gas, Button, Gap, Sign, Radar}
use Rattle.event.specs.declared.Event.{Event}
use Rattle.event.specs.declared.Event.TheVariants as event
use Rattle.event.specs.Words.{input_kind}
use Rattle.desired.specs.Desired.{stepped, long_held, sign_gives, sign_desired}
use Rattle.car.specs.declared.Car.{Car}
use Rattle.car.specs.Car.{fresh_car, settings_of, Permitted, ceiling_of, with_levers, with_pedals, with_limiter, with_cruise, with_radar, with_gap}
use Rattle.car.specs.Drive.{input_next, event_next, check_of, step_of}
use Rattle.car.proofs.DriveLaws.{accepted_as_lem}
use Rattle.car.proofs.FreshLaws.{permitted_good}
use Rattle.car.specs.Good.{good_of}
use Rattle.car.proofs.GoodLaws.{good}
use Rattle.car.specs.Lesson.{driven}
use Rattle.car.proofs.LessonLaws.{driven_good}
use Rattle.car.specs.Rules.{key_turned, lever_desired, up_down_moved, with_foreback, engages, start_desired, engaged, forward, cruise_off, backward, fore_back_moved, brake_pressed, gas_pressed, button_pressed, sign_acts, sign_after, sign_passed, reading_taken, hold_applies, hold_desired, tick_desired, ticked}
use Rattle.car.proofs.StepLaws.{Stepping, went, stayed, stepping}
use Rattle.history.proofs.HistoryLaws.{driven_append, driven_at}
use Rattle.history.proofs.SettingsLaws.{fore_back_kept, brake_kept}
use Rattle.history.specs.KeptDesired.{input_renews, renews, is_key, renewing, accepted_key, Never, LastWord, renewed, turned, neither, KeptDesired}

-- ---- one event
-- no more events renew D than have to: such an event leaves the D that its rule makes
module _ (c : Car) where
  pub renewed_lever : (x : ℕ) → input_renews c (UpDown x) ≡ true
      → (up_down_moved c x).cruise.desired ≡ pick c.cruise.on (stepped (ceiling_of c.settings) x c.cruise.desired) (min (ceiling_of c.settings) c.speed)
  unfolding input_renews up_down_moved lever_desired with_cruise with_levers
  renewed_lever x h = pick_false _ _ _ (not_is _ h)

  pub renewed_forward : (y : ℕ) → input_renews c (ForeBack y) ≡ true
      → (fore_back_moved c y).cruise ≡ record { on = true; desired = min (ceiling_of c.settings) c.speed; manual = c.cruise.manual }
  unfolding input_renews fore_back_moved forward engages start_desired engaged with_foreback with_cruise with_levers pick
  renewed_forward y h =
      let z = and_r (eqb y 1 && engages c) (eqb c.cruise.desired 0) h in
      let f = and_l (eqb y 1 && engages c) (eqb c.cruise.desired 0) h in
      let p = and_l (eqb y 1) (engages c) f in
      let r = and_r (eqb y 1) (engages c) f in
      rw (p, r, z)

  pub renewed_sign : (s : ℕ) → input_renews c (Sign s) ≡ true
      → (sign_passed c s).cruise.desired ≡ min (ceiling_of c.settings) (sign_gives s c.cruise.desired c.cruise.manual)
  unfolding input_renews sign_passed sign_after sign_desired with_cruise
  renewed_sign s h =
      let l = leb-true _ s (and_r (sign_acts c) _ h) in
      pick_true _ _ _ (and_l (sign_acts c) _ h) ∙ pick_false _ _ _ (le-ltb s 200 (omega (arith, l)))

  pub renewed_hold : (ready : Bool) → renews c (event.Tick ready) ≡ true
      → (ticked c ready).cruise.desired ≡ long_held (ceiling_of c.settings) c.levers.updown c.levers.base (c.now + 1 - c.levers.time)
  unfolding renews ticked tick_desired hold_desired
  renewed_hold ready h = pick_true _ _ _ (and_l c.cruise.on _ h) ∙ pick_true _ _ _ (and_r c.cruise.on _ h)

  -- and no other input does
  pub renewed_kinds : (i : Input) → input_renews c i ≡ true → (eqb (input_kind i) 2 || eqb (input_kind i) 3 || eqb (input_kind i) 8) ≡ true
  unfolding input_renews input_kind
  renewed_kinds (Key position ready) h = h
  renewed_kinds (UpDown x) h = refl
  renewed_kinds (ForeBack y) h = refl
  renewed_kinds (Brake x) h = h
  renewed_kinds (Gas x) h = h
  renewed_kinds (Button limit) h = h
  renewed_kinds (Gap tenths) h = h
  renewed_kinds (Sign s) h = refl
  renewed_kinds (Radar range speed) h = h

-- and no fewer: any other event keeps D, but for the key's, which clears it
module _ (c : Car) where
  lever_keeps : (x : ℕ) → input_renews c (UpDown x) ≡ false → lever_desired c x ≡ c.cruise.desired
  unfolding input_renews lever_desired pick
  lever_keeps x = either (eqb x 0) (λ e h. rw e) (λ e h. no (rw e at h))

  forward_keeps : (y : ℕ) → input_renews c (ForeBack y) ≡ false → (fore_back_moved c y).cruise.desired ≡ c.cruise.desired
  unfolding input_renews fore_back_moved forward engages start_desired engaged backward cruise_off with_foreback with_cruise with_levers with_limiter pick
  forward_keeps y =
      either (eqb y 1)
      (λ p. either (engages c)
      (λ r. either (eqb c.cruise.desired 0) (λ z h. no (rw (p, r, z) at h)) (λ z h. rw (p, r, z)))
      (λ r h. rw (p, r)))
      (λ p h. either (eqb y 2) (λ q. rw (p, q)) (λ q. rw (p, q)))

  brake_keeps : (x : ℕ) → (brake_pressed c x).cruise.desired ≡ c.cruise.desired
  unfolding brake_pressed cruise_off with_pedals with_cruise with_levers pick
  brake_keeps x = either (ltb 0 x) (λ e. rw e) (λ e. rw e)

  sign_keeps : (s : ℕ) → input_renews c (Sign s) ≡ false → sign_after c s ≡ c.cruise.desired
  unfolding input_renews sign_after sign_desired pick
  sign_keeps s =
      either (sign_acts c)
      (λ a h. let l = leb-false _ s (rw a at h) in rw (a, lt-ltb s 200 (omega (arith, l))))
      (λ a h. rw a)

  tick_keeps : (ready : Bool) → renews c (event.Tick ready) ≡ false → tick_desired c ≡ c.cruise.desired
  unfolding renews tick_desired hold_desired pick
  tick_keeps ready =
      either c.cruise.on
      (λ o h. let q : hold_applies c (c.now + 1 - c.levers.time) ≡ false = rw o at h in rw (o, q))
      (λ o h. rw o)

  -- an event that neither renews D nor is the key's
  input_keeps : (i : Input) → input_renews c i ≡ false → eqb (input_kind i) 1 ≡ false → (input_next c i).cruise.desired ≡ c.cruise.desired
  unfolding input_next input_renews input_kind up_down_moved gas_pressed button_pressed sign_passed reading_taken with_levers with_pedals with_limiter with_cruise with_radar with_gap
  input_keeps (Key position ready) r t = no t
  input_keeps (UpDown x) r t = lever_keeps x r
  input_keeps (ForeBack y) r t = forward_keeps y r
  input_keeps (Brake x) r t = brake_keeps x
  input_keeps (Gas x) r t = refl
  input_keeps (Button limit) r t = refl
  input_keeps (Gap tenths) r t = refl
  input_keeps (Sign s) r t = sign_keeps s r
  input_keeps (Radar range speed) r t = refl

  event_keeps : (e : Event) → renews c e ≡ false → is_key e ≡ false → (event_next c e).cruise.desired ≡ c.cruise.desired
  unfolding event_next renews is_key ticked
  event_keeps (event.Input i) r t = input_keeps i r t
  event_keeps (event.Tick ready) r t = tick_keeps ready r

  -- the key's
  input_clears : (i : Input) → eqb (input_kind i) 1 ≡ true → (input_next c i).cruise.desired ≡ 0
  unfolding input_next input_kind key_turned
  input_clears (Key position ready) t = refl
  input_clears (UpDown x) t = no (sym t)
  input_clears (ForeBack y) t = no (sym t)
  input_clears (Brake x) t = no (sym t)
  input_clears (Gas x) t = no (sym t)
  input_clears (Button limit) t = no (sym t)
  input_clears (Gap tenths) t = no (sym t)
  input_clears (Sign s) t = no (sym t)
  input_clears (Radar range speed) t = no (sym t)

  event_clears : (e : Event) → is_key e ≡ true → (event_next c e).cruise.desired ≡ 0
  unfolding event_next is_key
  event_clears (event.Input i) t = input_clears i t
  event_clears (event.Tick ready) t = no (sym t)

  -- the key stays where no word turns it
  input_key : (i : Input) → eqb (input_kind i) 1 ≡ false → (input_next c i).key ≡ c.key
  unfolding input_next input_kind up_down_moved gas_pressed button_pressed sign_passed reading_taken with_levers with_pedals with_limiter with_cruise with_radar with_gap
  input_key (Key position ready) t = no t
  input_key (UpDown x) t = refl
  input_key (ForeBack y) t = (fore_back_kept c y).1
  input_key (Brake x) t = (brake_kept c x).1
  input_key (Gas x) t = refl
  input_key (Button limit) t = refl
  input_key (Gap tenths) t = refl
  input_key (Sign s) t = refl
  input_key (Radar range speed) t = refl

  event_key : (e : Event) → is_key e ≡ false → (event_next c e).key ≡ c.key
  unfolding event_next is_key ticked
  event_key (event.Input i) t = input_key i t
  event_key (event.Tick ready) t = refl

-- ---- one word
module _ (c : Car) (w : ℕ) where
  word_keeps : renewing c w ≡ false → accepted_key c w ≡ false → (step_of c w).car.cruise.desired ≡ c.cruise.desired
  word_keeps s t = go (stepping c w)
    where
      go : Stepping c w → (step_of c w).car.cruise.desired ≡ c.cruise.desired
      go (went e r i h z q) =
          let a = eq-eqb (check_of c w) 0 z in
          rw q (event_keeps c e (sym (accepted_as_lem (renews c) c w e r a) ∙ s) (sym (accepted_as_lem is_key c w e r a) ∙ t))
      go (stayed n q) = rw q

  word_clears : accepted_key c w ≡ true → (step_of c w).car.cruise.desired ≡ 0
  word_clears t = go (stepping c w)
    where
      go : Stepping c w → (step_of c w).car.cruise.desired ≡ 0
      go (went e r i h z q) = rw q (event_clears c e (sym (accepted_as_lem is_key c w e r (eq-eqb (check_of c w) 0 z)) ∙ t))
      go (stayed n q) = no (sym t ∙ and_left _ _ (ne_eqb _ _ n))

  word_key : accepted_key c w ≡ false → (step_of c w).car.key ≡ c.key
  word_key t = go (stepping c w)
    where
      go : Stepping c w → (step_of c w).car.key ≡ c.key
      go (went e r i h z q) = rw q (event_key c e (sym (accepted_as_lem is_key c w e r (eq-eqb (check_of c w) 0 z)) ∙ t))
      go (stayed n q) = rw q

-- ---- words
module _ (f : Car → ℕ → Bool) (c : Car) where
  never_first : (w : ℕ) (ws : List ℕ) → Never f c (w ∷ ws) → f c w ≡ false
  unfolding driven
  never_first w ws n = n [] w ws refl

  never_rest : (w : ℕ) (ws : List ℕ) → Never f c (w ∷ ws) → Never f (step_of c w).car ws
  unfolding driven
  never_rest w ws n = λ us v vs e. n (w ∷ us) v vs (rw e)

  never_cons : (w : ℕ) (ws : List ℕ) → f c w ≡ false → Never f (step_of c w).car ws → Never f c (w ∷ ws)
  unfolding driven
  never_cons w ws t n [] v vs e = let q : w ≡ v = cc in rw (← q) t
  never_cons w ws t n (u ∷ us) v vs e =
      let q : w ≡ u = cc in
      let r : ws ≡ us ++ v ∷ vs = cc in
      rw (← q) (n us v vs r)

  never_nil : Never f c []
  never_nil [] v vs e = let z : ◌≡◌ {A = ℕ} 0 1 = cc in absurd (omega arith)
  never_nil (u ∷ us) v vs e = let z : ◌≡◌ {A = ℕ} 0 1 = cc in absurd (omega arith)

-- D is 0 until a word renews it, and it is kept until one does or the key is turned; the key stays until it is turned
zero_kept : (c : Car) (ws : List ℕ) → c.cruise.desired ≡ 0 → Never renewing c ws → (driven c ws).cruise.desired ≡ 0
unfolding driven
zero_kept c [] z n = z
zero_kept c (w ∷ ws) z n =
    zero_kept (step_of c w).car ws
    (either (accepted_key c w) (λ t. word_clears c w t) (λ t. word_keeps c w (never_first renewing c w ws n) t ∙ z))
    (never_rest renewing c w ws n)

pub kept : (c : Car) (ws : List ℕ) → Never renewing c ws → Never accepted_key c ws → (driven c ws).cruise.desired ≡ c.cruise.desired
unfolding driven
kept c [] n m = refl
kept c (w ∷ ws) n m =
    kept (step_of c w).car ws (never_rest renewing c w ws n) (never_rest accepted_key c w ws m)
    ∙ word_keeps c w (never_first renewing c w ws n) (never_first accepted_key c w ws m)

pub key_kept : (c : Car) (ws : List ℕ) → Never accepted_key c ws → (driven c ws).key ≡ c.key
unfolding driven
key_kept c [] n = refl
key_kept c (w ∷ ws) n = key_kept (step_of c w).car ws (never_rest accepted_key c w ws n) ∙ word_key c w (never_first accepted_key c w ws n)

-- the last word that renews D or turns the key
last_word : (c : Car) (ws : List ℕ) → LastWord c ws
unfolding driven
last_word c [] = neither (never_nil renewing c) (never_nil accepted_key c)
last_word c (w ∷ ws) = go (last_word (step_of c w).car ws)
  where
    go : LastWord (step_of c w).car ws → LastWord c (w ∷ ws)
    go (renewed us v vs e t n m) = renewed (w ∷ us) v vs (rw e) t n m
    go (turned us v vs e t n m) = turned (w ∷ us) v vs (rw e) t n m
    go (neither n m) =
        either (renewing c w) (λ t. renewed [] w ws refl t n m)
        (λ s. either (accepted_key c w) (λ t. turned [] w ws refl t n m) (λ t. neither (never_cons renewing c w ws s n) (never_cons accepted_key c w ws t m)))

-- ---- the claim, from a good car with D = 0
turned_zero : (c : Car) (us : List ℕ) (w : ℕ) → accepted_key (driven c us) w ≡ true → (driven c (us ++ w ∷ [])).cruise.desired ≡ 0
unfolding driven
turned_zero c us w t = rw (driven_append c us (w ∷ [])) (word_clears (driven c us) w t)

from_zero : (c : Car) (ws : List ℕ) → good_of c ≡ true → c.cruise.desired ≡ 0 → KeptDesired c ws
from_zero c ws g zero = record {
  left = λ us w vs e _ n m. rw (e, driven_at c us w vs) (kept _ vs n m);
  cleared = λ us w vs e t n. rw (e, driven_at c us w vs) (zero_kept _ vs (turned_zero c us w t) n);
  never = zero_kept c ws zero;
  last = last_word c ws;
  off = λ k. ((good _ (driven_good c ws g)).off k).desired;
}

fresh_desired : (mode signs towing : ℕ) → (fresh_car (settings_of mode signs towing)).cruise.desired ≡ 0
unfolding fresh_car
fresh_desired mode signs towing = refl

-- "For every list of words from a fresh car", with any permitted settings
pub desired_kept : (mode signs towing : ℕ) → Permitted mode signs towing → (ws : List ℕ) → KeptDesired (fresh_car (settings_of mode signs towing)) ws
desired_kept mode signs towing p ws = from_zero _ ws (permitted_good mode signs towing p) (fresh_desired mode signs towing)
