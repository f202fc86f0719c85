-- The code's way to a vehicle's answer: the metres' whole number, then the speed's.
-- Assumes nothing.
use Rattle.std.specs.Prelude.{true, false, ◌≡◌, ℕ, ◌<◌, min, leb, Float, Some, None}
use Rattle.std.proofs.Common.{sym, ◌∙◌, arith, leb-true, leb-false}
use Rattle.std.proofs.Math.Path.{ap}
use Rattle.kit.specs.Answer.{gives, refused}
use Rattle.kit.specs.Pick.{pick_true, pick_false, either, or_left}
use Rattle.event.specs.declared.Event.{Event}
use Rattle.event.specs.Words.{write_of}
use Rattle.sighting.specs.declared.Sighting.{Sighting}
use Rattle.sighting.specs.Sighting.{reading_of, vehicle_of, seen_of, as_word, seen_word}
use Rattle.sighting.proofs.SightingLaws.{tenths_le, reading_far, event_written}
use Rattle.sighting.specs.SightingShape.{large, whole_of, at_speed, written}
use Rattle.sighting.specs.Value.{unusable, above, floor_times}
use Rattle.sighting.proofs.WholeLaws.{whole_unusable, whole_usable}

-- what the whole number of a float says
whole_refused : (k n : ℕ) (x : Float) → whole_of k x ≡ refused n → (unusable x ≡ true) × (n ≡ 22)
whole_refused k n x e = either (unusable x)
    (λ t. (t, cc (whole_unusable k x t, e)))
    (λ f. let z : ◌≡◌ {A = ℕ} 0 1 = cc (whole_usable k x f, e) in absurd (omega arith))

whole_given : (k n : ℕ) (x : Float) → whole_of k x ≡ gives n → (unusable x ≡ false) × (n ≡ min (floor_times k x) large)
whole_given k n x e = either (unusable x)
    (λ t. let z : ◌≡◌ {A = ℕ} 0 1 = cc (whole_unusable k x t, e) in absurd (omega arith))
    (λ f. (f, cc (whole_usable k x f, e)))

-- metres past 2^23 read as 2^23 do
reading_held : (metres tenths : ℕ) → reading_of (min metres large) tenths ≡ reading_of metres tenths
reading_held metres tenths = either (leb large metres)
    (λ t. let l = leb-true large metres t in reading_far _ _ (omega arith) ∙ sym (reading_far _ _ (omega arith)))
    (λ f. ap (λ (n : ℕ). reading_of n tenths) (small metres (leb-false large metres f)))
  where
    small : (n : ℕ) → n < large → min n large ≡ n
    small n h = omega arith

-- ---- the speed
module _ (metres : ℕ) (kmh : Float) where
  pub speed_refused : (n : ℕ) → whole_of 10 kmh ≡ refused n → at_speed metres kmh ≡ refused n
  unfolding at_speed
  speed_refused n e = let w = whole_refused 10 n kmh e in pick_true _ _ _ w.0 ∙ ap refused (sym w.1)

  pub speed_fast : (t : ℕ) → whole_of 10 kmh ≡ gives t → above 500 kmh ≡ true → at_speed metres kmh ≡ refused 23
  unfolding at_speed
  speed_fast t e a = pick_false _ _ _ (whole_given 10 t kmh e).0 ∙ pick_true _ _ _ a

  pub speed_read : (t : ℕ) → whole_of 10 kmh ≡ gives t → above 500 kmh ≡ false → at_speed metres kmh ≡ gives (Some (reading_of metres t))
  unfolding at_speed
  speed_read t e a =
      let w = whole_given 10 t kmh e in
      let l = tenths_le kmh w.0 a in
      let s : floor_times 10 kmh ≡ t = omega (arith, w.1, l) in
      pick_false _ _ _ w.0 ∙ pick_false _ _ _ a ∙ ap (λ (n : ℕ). gives (Some (reading_of metres n))) s

-- ---- the metres
module _ (metres kmh : Float) (n : ℕ) where
  pub metres_refused : whole_of 1 metres ≡ refused n → vehicle_of metres kmh ≡ refused n
  unfolding vehicle_of
  metres_refused e = let w = whole_refused 1 n metres e in pick_true _ _ _ (or_left _ _ w.0) ∙ ap refused (sym w.1)

  pub metres_read : whole_of 1 metres ≡ gives n → vehicle_of metres kmh ≡ at_speed n kmh
  unfolding vehicle_of at_speed
  metres_read e = let w = whole_given 1 n metres e in rw (w.0, w.1, reading_held (floor_times 1 metres) (floor_times 10 kmh))

-- ---- an event of a sighting has a word
pub word_written : (s : Sighting) (e : Event) → seen_of s ≡ gives (Some e) → written (write_of e) ≡ seen_word s
unfolding seen_word as_word written
word_written s e h = rw (h, event_written s e h)

pub word_none : (s : Sighting) → seen_of s ≡ gives None → seen_word s ≡ gives None
unfolding seen_word as_word
word_none s h = rw h

pub word_refused : (s : Sighting) (n : ℕ) → seen_of s ≡ refused n → seen_word s ≡ refused n
unfolding seen_word as_word
word_refused s n h = rw h
