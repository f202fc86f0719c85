-- Laws of lessons: the answer word's parts fit, words keep a car good, and the counts.
-- Assumes nothing.
use Rattle.std.specs.Prelude.{Bool, true, false, ◌⊎◌, ◌≡◌, refl, List, [], ◌∷◌, ℕ, suc, ◌+◌, ◌≤◌, eqb, length}
use Rattle.std.proofs.Common.{inl, inr, ⊎_elim, ap, arith}
use Rattle.kit.specs.Answer.{Answer, gives, refused}
use Rattle.kit.specs.Pick.{pick}
use Rattle.event.specs.declared.Input.{Input}
use Rattle.event.specs.declared.Input.TheVariants.{Key, UpDown, ForeBack, Brake, Gas, Button, Gap, Sign, Radar}
use Rattle.event.specs.declared.Event.{Event}
use Rattle.event.specs.declared.Event.TheVariants as event
use Rattle.event.specs.Words.{input_kind, read_of}
use Rattle.event.proofs.WordLaws.{refused_number}
use Rattle.checks.proofs.CheckLaws.{key_on_le, key_le, updown_le, foreback_le, pedal_le, button_le, radar_le, tick_le}
use Rattle.answer.specs.AnswerWord.{Fits}
use Rattle.car.specs.declared.Car.{Car}
use Rattle.car.specs.Checks.{own_check, input_check, event_check}
use Rattle.car.specs.Drive.{Driven, reading_check, check_of, step_of}
use Rattle.car.specs.Good.{good_of}
use Rattle.car.proofs.GoodLaws.{ceiling_le}
use Rattle.car.specs.Standing.{Ranges}
use Rattle.car.proofs.AccelerationLaws.{acceleration_code_lem}
use Rattle.car.specs.Lesson.{answering, driven, each_of, accepted_of, refused_of}
use Rattle.car.proofs.StepLaws.{step_refusal, step_good}

-- the checks of an event give no number above 16
input_le : (c : Car) (i : Input) → input_check c i ≤ 16
unfolding input_check own_check input_kind pick
input_le c (Key x ready) = key_le _ _ x ready
input_le c (UpDown x) = updown_le _ _ x
input_le c (ForeBack x) = foreback_le _ _ x
input_le c (Brake x) = key_on_le _ _ (pedal_le _ _ x)
input_le c (Gas x) = key_on_le _ _ (pedal_le _ _ x)
input_le c (Button limit) = key_on_le _ _ (button_le _ _ _ _ limit)
input_le c (Gap n) = key_on_le _ 0 (omega arith)
input_le c (Sign s) = key_on_le _ 0 (omega arith)
input_le c (Radar r s) = key_on_le _ _ (radar_le _)

event_le : (c : Car) (e : Event) → event_check c e ≤ 16
unfolding event_check
event_le c (event.Input i) = input_le c i
event_le c (event.Tick ready) = tick_le _ _ _ ready

-- the numbers of a word's checks
abbrev WordNumber : ℕ → Type 0
WordNumber n = (n ≤ 16) ⊎ (n ≡ 24)

check_number : (c : Car) (w : ℕ) → WordNumber (check_of c w)
unfolding check_of reading_check
check_number c w = go (read_of w) refl
  where
    go : (r : Answer Event) → read_of w ≡ r → WordNumber (reading_check c r)
    go (refused n) h = ⊎_elim (λ r. inl (omega (arith, r.1))) (λ r. inr r.0) (refused_number w n h)
    go (gives e) h = inl (event_le c e)

-- a word's refusal is at most 16, or 24; so it is never 18
pub refusal_number : (c : Car) (w : ℕ) → WordNumber (step_of c w).refusal
refusal_number c w = rw (step_refusal c w) (check_number c w)

pub refusal_le : (c : Car) (w : ℕ) → (step_of c w).refusal ≤ 24
refusal_le c w = ⊎_elim (λ h. omega (arith, h)) (λ h. omega (arith, h)) (refusal_number c w)

-- ---- the answer word's fields fit their bits
pub answering_fits : (d : Driven) → d.refusal ≤ 31 → Ranges d.car → Fits (answering d)
unfolding answering
answering_fits d h r =
    record {
      refusal = h;
      acceleration = omega (arith, acceleration_code_lem d.car r);
      desired = omega (arith, r.desired, ceiling_le d.car.settings);
    }

-- words keep a good car good
pub driven_good : (c : Car) (ws : List ℕ) → good_of c ≡ true → good_of (driven c ws) ≡ true
unfolding driven
driven_good c [] g = g
driven_good c (w ∷ ws) g = driven_good (step_of c w).car ws (step_good c w g)

-- a word is accepted or refused
one : (p : Bool) → pick p 1 0 + pick p 0 1 ≡ 1
unfolding pick
one true = refl
one false = refl

pub counts_all : (c : Car) (ws : List ℕ) → accepted_of c ws + refused_of c ws ≡ length ws
unfolding accepted_of refused_of
counts_all c [] = refl
counts_all c (w ∷ ws) = omega (arith, counts_all (step_of c w).car ws, one (eqb (step_of c w).refusal 0))

-- a number for each word
pub each_length : (f : Driven → ℕ) (c : Car) (ws : List ℕ) → length (each_of f c ws) ≡ length ws
unfolding each_of
each_length f c [] = refl
each_length f c (w ∷ ws) = ap suc (each_length f (step_of c w).car ws)
