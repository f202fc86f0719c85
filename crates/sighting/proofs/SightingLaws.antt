-- Laws of a sighting: its answer exactly, the refusals, its event and that event's word.
-- Assumes nothing.
use Rattle.std.specs.Prelude.{Bool, true, false, ◌||◌, ◌↔◌, ◌⊎◌, ◌≡◌, refl, ℕ, ◌+◌, ◌*◌, ◌/◌, ◌≤◌, ◌<◌, max, leb, ltb, ℤ, Float, Option, Some, None}
use Rattle.std.proofs.lemmas.Bool.{or_parts}
use Rattle.std.proofs.Common.{true≢false, inl, inr, ⊎_elim, sym, ◌∙◌, zero-mul, arith, leb-true, leb-false, le-leb, ltb-true, ltb-false, lt-ltb}
use Rattle.std.proofs.lemmas.Bool.{false≢true, lt-leb}
use Rattle.std.proofs.Math.Path.{ap, subst}
use Rattle.std.proofs.Math.Nat.{le-div_iff_mul-le, div-lt_iff_lt-mul}
use Rattle.std.specs.Float.Ieee.{nan, up, down}
use Rattle.std.specs.Float.{inf, fin}
use Rattle.std.specs.Float.Ieee.Fits.{down_pos}
use Rattle.kit.specs.Answer.{Answer, gives, refused, number_of}
use Rattle.kit.specs.Pick.{pick_true, pick_false, pick_case, either, and_both, or_left, or_right, or_neither}
use Rattle.event.specs.declared.Event.{Event}
use Rattle.event.specs.declared.Event.TheVariants as event
use Rattle.event.specs.declared.Input.TheVariants.{Radar}
use Rattle.event.specs.Words.{in_range, input_range, read_of, word_of, write_of}
use Rattle.event.proofs.WordLaws.{word_read, in_range_written}
use Rattle.sighting.specs.declared.Sighting.{Sighting}
use Rattle.sighting.specs.declared.Sighting.TheVariants.{Vehicle, Free, Fault}
use Rattle.sighting.specs.Exactly.{Reaches, Below, Above, Usable, Reads, Exactly}
use Rattle.sighting.specs.Sighting.{free_road, reading_of, vehicle_of, seen_of, as_word, seen_word}
use Rattle.sighting.specs.Value.{unusable, above, floor_times}

-- ---- the whole number at or below a multiple of a usable float
module _ (k : ℕ) (n : ℕ) where
  floor_reaches : (x : Float) → Usable x → n ≤ floor_times k x ↔ Reaches k x n
  unfolding floor_times Reaches unusable
  floor_reaches nan u = absurd (true≢false u)
  floor_reaches (inf s) u = absurd (true≢false u)
  floor_reaches (fin s m e) u = le-div_iff_mul-le (down_pos e)

  floor_below : (x : Float) → Usable x → floor_times k x < n ↔ Below k x n
  unfolding floor_times Below unusable
  floor_below nan u = absurd (true≢false u)
  floor_below (inf s) u = absurd (true≢false u)
  floor_below (fin s m e) u = div-lt_iff_lt-mul (down_pos e)

-- n exactly when n ≤ k × x < n + 1
floor_is : (k n : ℕ) (x : Float) → Usable x → floor_times k x ≡ n ↔ Reaches k x n × Below k x (n + 1)
floor_is k n x u = (
  λ e. ((floor_reaches k n x u).0 (omega (arith, e)), (floor_below k (n + 1) x u).0 (omega (arith, e))),
  λ b. omega (arith, (floor_reaches k n x u).1 b.0, (floor_below k (n + 1) x u).1 b.1),
)

-- a usable float with a minus sign is minus zero
minus_zero : (m : ℕ) (e : ℤ) → ltb 0 m ≡ false → m * up e ≡ 0
minus_zero m e u = ap (λ (n : ℕ). n * up e) (nothing m (ltb-false 0 m u)) ∙ zero-mul (up e)
  where
    nothing : (m : ℕ) → m ≤ 0 → m ≡ 0
    nothing m h = omega arith

-- above n, as the sentence has it
above_exactly : (n : ℕ) (x : Float) → Usable x → above n x ≡ true ↔ Above n x
unfolding above Above unusable
above_exactly n nan u = absurd (true≢false u)
above_exactly n (inf s) u = absurd (true≢false u)
above_exactly n (fin false m e) u = (ltb-true _ _, lt-ltb _ _)
above_exactly n (fin true m e) u = (λ t. absurd (false≢true t), λ a. absurd (omega (arith, a, minus_zero m e u)))

held : (m : ℕ) (e : ℤ) → m * up e ≤ 500 * down e → 10 * (m * up e) / down e ≤ 5000
held m e h = omega (arith, (div-lt_iff_lt-mul {k = down e} {x = 10 * (m * up e)} {y = 5001} (down_pos e)).1 (omega (arith, h, down_pos e)))

-- a speed that is not above 500 km/h has at most 5000 tenths
pub tenths_le : (x : Float) → Usable x → above 500 x ≡ false → floor_times 10 x ≤ 5000
unfolding above floor_times unusable
tenths_le nan u a = absurd (true≢false u)
tenths_le (inf s) u a = absurd (true≢false u)
tenths_le (fin false m e) u a = held m e (ltb-false _ _ a)
tenths_le (fin true m e) u a = held m e (omega (arith, minus_zero m e u))

-- ---- the reading of whole metres
pub reading_far : (metres tenths : ℕ) → 255 ≤ metres → reading_of metres tenths ≡ free_road
unfolding reading_of
reading_far metres tenths h = pick_true _ _ _ (le-leb _ _ h)

pub reading_within : (metres tenths : ℕ) → metres < 255 → reading_of metres tenths ≡ event.Input (Radar (max metres 1) tenths)
unfolding reading_of
reading_within metres tenths h = pick_false _ _ _ (lt-leb _ _ h)

pub given_refused : {A : Type 0} {o : A} (n : ℕ) → gives o ≡ refused n → ⊥
given_refused n e = let z : ◌≡◌ {A = ℕ} 0 1 = cc e in omega arith

some_none : {e : Event} → ◌≡◌ {A = Answer (Option Event)} (gives (Some e)) (gives None) → ⊥
some_none e = let z : ◌≡◌ {A = ℕ} 0 1 = cc e in omega arith

neither : (t u : Bool) → (t || u) ≡ false → (t ≡ false) × (u ≡ false)
neither = or_parts

-- ---- the answer to a vehicle, case by case
module _ (metres kmh : Float) where
  abbrev bad : Bool
  bad = unusable metres || unusable kmh

  abbrev event_of : Event
  event_of = reading_of (floor_times 1 metres) (floor_times 10 kmh)

  pub vehicle_22 : bad ≡ true → seen_of (Vehicle metres kmh) ≡ refused 22
  unfolding seen_of vehicle_of
  vehicle_22 b = pick_true _ _ _ b

  pub vehicle_23 : bad ≡ false → above 500 kmh ≡ true → seen_of (Vehicle metres kmh) ≡ refused 23
  unfolding seen_of vehicle_of
  vehicle_23 b a = pick_false _ _ _ b ∙ pick_true _ _ _ a

  pub vehicle_event : bad ≡ false → above 500 kmh ≡ false → seen_of (Vehicle metres kmh) ≡ gives (Some event_of)
  unfolding seen_of vehicle_of
  vehicle_event b a = pick_false _ _ _ b ∙ pick_false _ _ _ a

  -- the answer's refusal
  abbrev number : ℕ
  number = number_of (seen_of (Vehicle metres kmh))

  number_22 : bad ≡ true → number ≡ 22
  unfolding number_of
  number_22 b = ap number_of (vehicle_22 b)

  number_23 : bad ≡ false → above 500 kmh ≡ true → number ≡ 23
  unfolding number_of
  number_23 b a = ap number_of (vehicle_23 b a)

  number_0 : bad ≡ false → above 500 kmh ≡ false → number ≡ 0
  unfolding number_of
  number_0 b a = ap number_of (vehicle_event b a)

  is_number : (n : ℕ) → seen_of (Vehicle metres kmh) ≡ refused n → number ≡ n
  unfolding number_of
  is_number n e = ap number_of e

  -- 22 exactly when either float is no number, infinite or below zero
  pub refused_22 : seen_of (Vehicle metres kmh) ≡ refused 22 ↔ (unusable metres ≡ true) ⊎ (unusable kmh ≡ true)
  refused_22 = (λ e. go (is_number 22 e), λ w. vehicle_22 (⊎_elim (or_left (unusable metres) (unusable kmh)) (or_right (unusable metres) (unusable kmh)) w))
    where
      go : number ≡ 22 → (unusable metres ≡ true) ⊎ (unusable kmh ≡ true)
      go n = either (unusable metres) inl (λ f. either (unusable kmh) inr (λ g. absurd (no_other (or_neither _ _ f g))))
        where
          no_other : bad ≡ false → ⊥
          no_other b = either (above 500 kmh) (λ a. omega (arith, n, number_23 b a)) (λ a. omega (arith, n, number_0 b a))

  -- 23 exactly when neither is, and the speed is above 500
  pub refused_23 : seen_of (Vehicle metres kmh) ≡ refused 23 ↔ Usable metres × Usable kmh × Above 500 kmh
  refused_23 = (
    λ e. let n = is_number 23 e in
        let b : bad ≡ false = either bad (λ t. absurd (omega (arith, n, number_22 t))) (λ f. f) in
        let v = neither _ _ b in
        (v.0, v.1, (above_exactly 500 kmh v.1).0 (either (above 500 kmh) (λ t. t) (λ f. absurd (omega (arith, n, number_0 b f))))),
    λ w. vehicle_23 (or_neither _ _ w.0 w.1) ((above_exactly 500 kmh w.1).1 w.2),
  )

-- ---- 22 and 23 are all refusals, and there is no event for a fault alone
pub refused_number : (s : Sighting) (n : ℕ) → seen_of s ≡ refused n → (n ≡ 22) ⊎ (n ≡ 23)
unfolding seen_of
refused_number Free n e = absurd (given_refused n e)
refused_number Fault n e = absurd (given_refused n e)
refused_number (Vehicle metres kmh) n e = either (unusable metres || unusable kmh)
    (λ b. inl (cc (vehicle_22 metres kmh b, e)))
    (λ b. either (above 500 kmh)
    (λ a. inr (cc (vehicle_23 metres kmh b a, e)))
    (λ a. absurd (given_refused n (sym (vehicle_event metres kmh b a) ∙ e))))

pub word_refused : (s : Sighting) (n : ℕ) → seen_word s ≡ refused n → n ≡ 0 → ⊥
unfolding seen_word as_word
word_refused s n h z = go (seen_of s) refl h
  where
    go : (a : Answer (Option Event)) → seen_of s ≡ a → as_word a ≡ refused n → ⊥
    go (gives (Some e)) q h = given_refused n h
    go (gives None) q h = given_refused n h
    go (refused m) q h = let r : m ≡ n = cc h in ⊎_elim (λ t. omega (arith, t, r, z)) (λ t. omega (arith, t, r, z)) (refused_number s m q)

pub none_fault : (s : Sighting) → seen_of s ≡ gives None → s ≡ Fault
unfolding seen_of
none_fault Free e = absurd (some_none e)
none_fault Fault e = refl
none_fault (Vehicle metres kmh) e = either (unusable metres || unusable kmh)
    (λ b. absurd (given_refused 22 (sym e ∙ vehicle_22 metres kmh b)))
    (λ b. either (above 500 kmh)
    (λ a. absurd (given_refused 23 (sym e ∙ vehicle_23 metres kmh b a)))
    (λ a. absurd (some_none (sym (vehicle_event metres kmh b a) ∙ e))))

-- ---- of usable floats and a speed that is not above 500: the answer exactly
module _ (metres kmh : Float) (um : Usable metres) (uk : Usable kmh) (slow : Above 500 kmh → ⊥) where
  abbrev whole_metres : ℕ
  whole_metres = floor_times 1 metres

  abbrev whole_tenths : ℕ
  whole_tenths = floor_times 10 kmh

  not_above : above 500 kmh ≡ false
  not_above = either (above 500 kmh) (λ t. absurd (slow ((above_exactly 500 kmh uk).0 t))) (λ f. f)

  is_event : seen_of (Vehicle metres kmh) ≡ gives (Some (reading_of whole_metres whole_tenths))
  is_event = vehicle_event metres kmh (or_neither _ _ um uk) not_above

  -- an answer of a reading, with its range and speed
  same_reading : (n t : ℕ) → Reads metres kmh n t → reading_of whole_metres whole_tenths ≡ event.Input (Radar n t)
  same_reading n t e = cc (is_event, e)

  far : 255 ≤ whole_metres → Reads metres kmh 0 0
  far h = is_event ∙ ap (λ (e : Event). gives (Some e)) (reading_far whole_metres whole_tenths h)

  within : whole_metres < 255 → Reads metres kmh (max whole_metres 1) whole_tenths
  within h = is_event ∙ ap (λ (e : Event). gives (Some e)) (reading_within whole_metres whole_tenths h)

  -- what a range above 0 says
  read_within : (n t : ℕ) → 1 ≤ n → Reads metres kmh n t → (max whole_metres 1 ≡ n) × (whole_tenths ≡ t) × (whole_metres < 255)
  read_within n t p e = either (leb 255 whole_metres)
      (λ l. let z : ◌≡◌ {A = ℕ} 0 n = cc (far (leb-true _ _ l), e) in absurd (omega arith))
      (λ l. let w = leb-false _ _ l in (cc (within w, e), cc (within w, e), w))

  pub exactly : Exactly metres kmh
  exactly = record {
    car = λ n t p q. (
      λ e. let r = read_within n t (omega arith) e in
          let m = (floor_is 1 n metres um).0 (omega (arith, r.0, p)) in
          let k = (floor_is 10 t kmh uk).0 r.1 in
          (m.0, m.1, k.0, k.1),
      λ b. let m = (floor_is 1 n metres um).1 (b.0, b.1) in
          let k = (floor_is 10 t kmh uk).1 (b.2, b.3) in
          is_at n t (omega arith) k (within (omega arith)),
    );
    near = λ t. (
      λ e. let r = read_within 1 t (omega arith) e in
          let k = (floor_is 10 t kmh uk).0 r.1 in
          ((floor_below 1 2 metres um).0 (omega (arith, r.0)), k.0, k.1),
      λ b. let m = (floor_below 1 2 metres um).1 b.0 in
          is_at 1 t (omega arith) ((floor_is 10 t kmh uk).1 (b.1, b.2)) (within (omega arith)),
    );
    free = (
      λ e. (floor_reaches 1 255 metres um).0 (either (leb 255 whole_metres) (leb-true _ _)
          (λ l. let z : ◌≡◌ {A = ℕ} (max whole_metres 1) 0 = cc (within (leb-false _ _ l), e) in absurd (omega arith))),
      λ b. far ((floor_reaches 1 255 metres um).1 b),
    );
    some_reading = either (leb 255 whole_metres)
        (λ l. (0, 0, far (leb-true _ _ l), omega arith, omega arith))
        (λ l. let w = leb-false _ _ l in (max whole_metres 1, whole_tenths, within w, omega arith, tenths_le kmh uk not_above));
  }
    where
      is_at : (n t : ℕ) → max whole_metres 1 ≡ n → whole_tenths ≡ t → Reads metres kmh (max whole_metres 1) whole_tenths → Reads metres kmh n t
      is_at n t p q e = e ∙ ap (λ (x : ℕ). gives (Some (event.Input (Radar x whole_tenths)))) p ∙ ap (λ (x : ℕ). gives (Some (event.Input (Radar n x)))) q

-- ---- an event of a sighting is a radar event with its values in range, so that checks 1 to 3 do not refuse it and its word is read back as that event
pub record RadarEvent (e : Event) : Type 0 where
  pub range : ℕ
  pub speed : ℕ
  pub is : e ≡ event.Input (Radar range speed)
  pub range_le : range ≤ 254
  pub speed_le : speed ≤ 5000

reading_radar : (metres tenths : ℕ) → tenths ≤ 5000 → RadarEvent (reading_of metres tenths)
unfolding reading_of
reading_radar metres tenths h = pick_case RadarEvent (leb 255 metres) _ _
    (λ t. record { range = 0; speed = 0; is = refl; range_le = omega arith; speed_le = omega arith })
    (λ f. record { range = max metres 1; speed = tenths; is = refl; range_le = omega (arith, leb-false 255 metres f); speed_le = h })

-- what an answer says of its event
unfoldable Radars : Answer (Option Event) → Type 0
Radars (gives (Some e)) = RadarEvent e
Radars (gives None) = Unit
Radars (refused n) = Unit

all_radar : (s : Sighting) → Radars (seen_of s)
unfolding seen_of vehicle_of Radars
all_radar (Vehicle metres kmh) = pick_case Radars (unusable metres || unusable kmh) _ _ (λ _. tt)
    (λ b. pick_case Radars (above 500 kmh) _ _ (λ _. tt)
    (λ a. reading_radar _ _ (tenths_le kmh (neither (unusable metres) (unusable kmh) b).1 a)))
all_radar Free = record { range = 0; speed = 0; is = refl; range_le = omega arith; speed_le = omega arith }
all_radar Fault = tt

module _ (s : Sighting) (e : Event) (gave : seen_of s ≡ gives (Some e)) where
  pub event_radar : RadarEvent e
  unfolding Radars
  event_radar = subst Radars gave (all_radar s)

  pub event_range : in_range e ≡ true
  unfolding in_range input_range
  event_range = let r = event_radar in rw r.is (and_both _ _ (le-leb _ _ r.range_le) (le-leb _ _ r.speed_le))

  pub event_written : write_of e ≡ gives (word_of e)
  event_written = in_range_written e event_range

  pub event_read : read_of (word_of e) ≡ gives e
  event_read = word_read e event_range
