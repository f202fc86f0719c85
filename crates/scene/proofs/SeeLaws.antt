-- Laws of a sighting driven on a car.
-- Assumes nothing.
use Rattle.std.specs.Prelude.{Bool, ◌≡◌, ℕ, Some, None}
use Rattle.std.proofs.Math.Bool.{true, false}
use Rattle.std.proofs.Math.Path.{refl, ap}
use Rattle.std.proofs.Common.{◌∙◌}
use Rattle.kit.specs.Answer.{gives, refused}
use Rattle.kit.specs.Pick.{pick, pick_case}
use Rattle.event.specs.declared.Event.{Event}
use Rattle.event.specs.Words.{input_kind, word_of}
use Rattle.car.specs.declared.Car.{Car}
use Rattle.car.specs.Drive.{Driven, drive_of, step_of, check_of, reading_check}
use Rattle.car.specs.Checks.{event_check, input_check, own_check}
use Rattle.car.proofs.StepLaws.{drive_step, step_refusal}
use Rattle.checks.specs.Checks.{key_on, radar_check}
use Rattle.car.specs.Good.{good_of}
use Rattle.sighting.specs.declared.Sighting.{Sighting}
use Rattle.sighting.specs.Sighting.{seen_of, as_word, seen_word}
use Rattle.sighting.proofs.SightingLaws.{RadarEvent, event_radar, event_read}
use Rattle.scene.specs.See.{Saw, told_of, sighted_of, see_of}
use Rattle.scene.specs.SeeShape.{kept_of}

-- ---- driving a sighting is driving its event's word, on every car
module _ (c : Car) (s : Sighting) where
  pub see_word : (w : ℕ) → seen_word s ≡ gives (Some w) → see_of c s ≡ told_of (drive_of c w)
  unfolding see_of sighted_of drive_of pick
  see_word w h = rw h (go (good_of c))
    where
      go : (t : Bool) → pick t (told_of (step_of c w)) (record { car = c; refusal = 18; fault = false }) ≡ told_of (pick t (step_of c w) (record { car = c; refusal = 18 }))
      go true = refl
      go false = refl

  pub see_event : (e : Event) → seen_of s ≡ gives (Some e) → see_of c s ≡ told_of (drive_of c (word_of e))
  unfolding seen_word as_word
  see_event e h = see_word (word_of e) (ap as_word h)

  -- a fault and a refusal keep every car
  pub see_none : seen_word s ≡ gives None → see_of c s ≡ kept_of c 0 true
  unfolding see_of sighted_of kept_of
  see_none h = rw h

  pub see_refused : (n : ℕ) → seen_word s ≡ refused n → see_of c s ≡ kept_of c n false
  unfolding see_of sighted_of kept_of
  see_refused n h = rw h

pub kept_car : (c : Car) (n : ℕ) (fault : Bool) → (kept_of c n fault).car ≡ c
unfolding kept_of
kept_car c n fault = pick_case (λ (x : Saw). x.car ≡ c) (good_of c) _ _ (λ _. refl) (λ _. refl)

-- ---- on a good car: 22 and 23, then 4 and 14, and no other check refuses
radar_check_lem : (c : Car) (e : Event) → RadarEvent e → event_check c e ≡ key_on c.key (radar_check c.radar.ready)
unfolding event_check input_check own_check input_kind pick
radar_check_lem c e r = rw r.is

module _ (c : Car) (s : Sighting) (is_good : good_of c ≡ true) where
  pub see_checks : (e : Event) → seen_of s ≡ gives (Some e) → (see_of c s).refusal ≡ key_on c.key (radar_check c.radar.ready)
  unfolding check_of reading_check
  see_checks e h =
      ap (λ (x : Saw). x.refusal) (see_event c s e h)
      ∙ ap (λ (d : Driven). d.refusal) (drive_step c (word_of e) is_good)
      ∙ step_refusal c (word_of e)
      ∙ ap (reading_check c) (event_read s e h)
      ∙ radar_check_lem c e (event_radar s e h)
