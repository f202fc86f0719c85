-- Laws of one word driven, as the code goes through it: a tick's word, or an input's.
-- Assumes nothing.
use Rattle.std.specs.Prelude.{Bool, true, false, ◌≡◌, ℕ, eqb, leb}
use Rattle.std.proofs.Math.Path.{ap}
use Rattle.std.proofs.Common.{◌∙◌, arith, eq-eqb, ne_eqb}
use Rattle.kit.specs.Answer.{gives, refused}
use Rattle.kit.specs.Pick.{pick_true, pick_false, pick_case, and_next}
use Rattle.event.specs.declared.Input.{Input}
use Rattle.event.specs.declared.Event.{Event}
use Rattle.event.specs.declared.Event.TheVariants as event
use Rattle.event.specs.Words.{kind_of, body_of, ready_of, input_of, input_event, tick_word, read_of}
use Rattle.event.proofs.WordLaws.{refused_some, read_tick, read_input}
use Rattle.car.specs.declared.Car.{Car}
use Rattle.car.specs.Checks.{input_check, event_check}
use Rattle.car.specs.Drive.{input_next, event_next, reading_check, check_of, reading_next, next_of, chosen, step_of, accepted, reads, accepted_as}
use Rattle.car.specs.LessonShape.{tick_refusal}
use Rattle.car.specs.Rules.{test_due, ticked}

-- an event that was read is chosen by its check
read_chosen : (c : Car) (w : ℕ) (e : Event) → read_of w ≡ gives e → step_of c w ≡ chosen c (event_check c e) (event_next c e)
unfolding step_of check_of next_of reading_check reading_next
read_chosen c w e h = rw h

pub step_unread : (c : Car) (w n : ℕ) → read_of w ≡ refused n → step_of c w ≡ record { car = c; refusal = n }
unfolding step_of check_of next_of reading_check reading_next chosen
step_unread c w n h = let r = refused_some w n h in rw h (pick_false _ _ _ (ne_eqb n 0 (omega arith)))

-- an accepted word is of a sort exactly when its event is
pub accepted_as_lem : (f : Event → Bool) (c : Car) (w : ℕ) (e : Event) → read_of w ≡ gives e → accepted c w ≡ true → accepted_as f c w ≡ f e
unfolding reads
accepted_as_lem f c w e r a = and_next _ _ a ∙ rw r

chosen_refused : (c d : Car) (n : ℕ) → (n ≡ 0 → ⊥) → chosen c n d ≡ record { car = c; refusal = n }
unfolding chosen
chosen_refused c d n h = pick_false _ _ _ (ne_eqb n 0 h)

chosen_taken : (c d : Car) (n : ℕ) → n ≡ 0 → chosen c n d ≡ record { car = d; refusal = 0 }
unfolding chosen
chosen_taken c d n h = pick_true _ _ _ (eq-eqb n 0 h)

-- ---- a tick's word
module _ (c : Car) (w : ℕ) (t : eqb (kind_of w) 10 ≡ true) where
  tick_read : leb 2 (body_of w) ≡ false → read_of w ≡ gives (event.Tick (ready_of (body_of w)))
  unfolding tick_word
  tick_read h = read_tick w t ∙ pick_false _ _ _ h

  tick_unread : leb 2 (body_of w) ≡ true → read_of w ≡ refused 2
  unfolding tick_word
  tick_unread h = read_tick w t ∙ pick_true _ _ _ h

  -- refused, or the car of the tick
  pub tick_refused : (tick_refusal c w (test_due c) ≡ 0 → ⊥) → step_of c w ≡ record { car = c; refusal = tick_refusal c w (test_due c) }
  unfolding tick_refusal event_check
  tick_refused =
      pick_case (λ (n : ℕ). (n ≡ 0 → ⊥) → step_of c w ≡ record { car = c; refusal = n }) (leb 2 (body_of w)) _ _
      (λ h z. step_unread c w 2 (tick_unread h))
      (λ h z. read_chosen c w _ (tick_read h) ∙ chosen_refused c _ _ z)

  pub tick_taken : tick_refusal c w (test_due c) ≡ 0 → step_of c w ≡ record { car = ticked c (ready_of (body_of w)); refusal = 0 }
  unfolding tick_refusal event_check event_next
  tick_taken =
      pick_case (λ (n : ℕ). n ≡ 0 → step_of c w ≡ record { car = ticked c (ready_of (body_of w)); refusal = 0 }) (leb 2 (body_of w)) _ _
      (λ h z. absurd (omega arith))
      (λ h z. read_chosen c w _ (tick_read h) ∙ chosen_taken c _ _ z)

  -- such a word is read as a tick, and no check holds
  pub tick_read_taken : tick_refusal c w (test_due c) ≡ 0 → (read_of w ≡ gives (event.Tick (ready_of (body_of w)))) × (check_of c w ≡ 0)
  unfolding tick_refusal event_check check_of reading_check
  tick_read_taken =
      pick_case (λ (n : ℕ). n ≡ 0 → (read_of w ≡ gives (event.Tick (ready_of (body_of w)))) × (check_of c w ≡ 0)) (leb 2 (body_of w)) _ _
      (λ h z. absurd (omega arith))
      (λ h z. (tick_read h, ap (reading_check c) (tick_read h) ∙ z))

-- ---- an input's word
module _ (c : Car) (w : ℕ) (t : eqb (kind_of w) 10 ≡ false) where
  pub input_unread : (n : ℕ) → input_of w ≡ refused n → step_of c w ≡ record { car = c; refusal = n }
  unfolding input_event
  input_unread n h = step_unread c w n (read_input w t ∙ ap input_event h)

  module _ (i : Input) (h : input_of w ≡ gives i) where
    input_chosen : step_of c w ≡ chosen c (input_check c i) (input_next c i)
    unfolding input_event event_check event_next
    input_chosen = read_chosen c w (event.Input i) (read_input w t ∙ ap input_event h)

    pub input_refused : (input_check c i ≡ 0 → ⊥) → step_of c w ≡ record { car = c; refusal = input_check c i }
    input_refused z = input_chosen ∙ chosen_refused c _ _ z

    pub input_taken : input_check c i ≡ 0 → step_of c w ≡ record { car = input_next c i; refusal = 0 }
    input_taken z = input_chosen ∙ chosen_taken c _ _ z
