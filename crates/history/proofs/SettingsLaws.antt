-- No word changes the settings, nor does a list of words; the fore-back lever and the brake do not touch the key either.
-- Assumes nothing.
use Rattle.std.specs.Prelude.{◌≡◌, refl, List, [], ◌∷◌, ℕ, eqb, ltb}
use Rattle.std.proofs.Common.{◌∙◌}
use Rattle.kit.specs.Pick.{pick, either}
use Rattle.event.specs.declared.Input.{Input}
use Rattle.event.specs.declared.Input.TheVariants.{Key, UpDown, ForeBack, Brake, Gas, Button, Gap, Sign, Radar}
use Rattle.event.specs.declared.Event.{Event}
use Rattle.event.specs.declared.Event.TheVariants as event
use Rattle.car.specs.declared.Car.{Car}
use Rattle.car.specs.Car.{with_levers, with_pedals, with_limiter, with_cruise, with_radar, with_gap}
use Rattle.car.specs.Drive.{input_next, event_next, step_of}
use Rattle.car.specs.Lesson.{driven}
use Rattle.car.specs.Rules.{key_turned, up_down_moved, with_foreback, engages, engaged, forward, cruise_off, backward, fore_back_moved, brake_pressed, gas_pressed, button_pressed, sign_passed, reading_taken, ticked}
use Rattle.car.proofs.StepLaws.{Stepping, went, stayed, stepping}

module _ (c : Car) where
  pub fore_back_kept : (y : ℕ) → ((fore_back_moved c y).settings ≡ c.settings) × ((fore_back_moved c y).key ≡ c.key)
  unfolding fore_back_moved forward engaged backward cruise_off with_foreback with_levers with_limiter with_cruise pick
  fore_back_kept y =
      either (eqb y 1)
      (λ p. either (engages (with_foreback c y)) (λ r. rw (p, r) (refl, refl)) (λ r. rw (p, r) (refl, refl)))
      (λ p. either (eqb y 2) (λ q. rw (p, q) (refl, refl)) (λ q. rw (p, q) (refl, refl)))

  pub brake_kept : (x : ℕ) → ((brake_pressed c x).settings ≡ c.settings) × ((brake_pressed c x).key ≡ c.key)
  unfolding brake_pressed cruise_off with_pedals with_cruise with_levers pick
  brake_kept x = either (ltb 0 x) (λ e. rw e (refl, refl)) (λ e. rw e (refl, refl))

  input_settings : (i : Input) → (input_next c i).settings ≡ c.settings
  unfolding input_next key_turned up_down_moved gas_pressed button_pressed sign_passed reading_taken with_levers with_pedals with_limiter with_cruise with_radar with_gap
  input_settings (Key position ready) = refl
  input_settings (UpDown x) = refl
  input_settings (ForeBack y) = (fore_back_kept y).0
  input_settings (Brake x) = (brake_kept x).0
  input_settings (Gas x) = refl
  input_settings (Button limit) = refl
  input_settings (Gap tenths) = refl
  input_settings (Sign s) = refl
  input_settings (Radar range speed) = refl

  event_settings : (e : Event) → (event_next c e).settings ≡ c.settings
  unfolding event_next ticked
  event_settings (event.Input i) = input_settings i
  event_settings (event.Tick ready) = refl

  pub step_settings : (w : ℕ) → (step_of c w).car.settings ≡ c.settings
  step_settings w = go (stepping c w)
    where
      go : Stepping c w → (step_of c w).car.settings ≡ c.settings
      go (went e r i h z q) = rw q (event_settings e)
      go (stayed n q) = rw q

pub driven_settings : (c : Car) (ws : List ℕ) → (driven c ws).settings ≡ c.settings
unfolding driven
driven_settings c [] = refl
driven_settings c (w ∷ ws) = driven_settings (step_of c w).car ws ∙ step_settings c w
