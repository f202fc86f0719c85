-- The readers from before refuse what they do not know, and what they took is taken as it was: document 02, §11.
-- Assumes nothing.
use Rattle.std.specs.Prelude.{Bool, true, false, ◌&&◌, ◌||◌, not, ◌≡◌, refl, List, ℕ, ◌/◌, ◌%◌, ◌^◌, ◌≤◌, ◌<◌, ◌⊎◌, eqb, leb, ltb, get_or}
use Rattle.std.proofs.Common.{sym, ◌∙◌, ap, arith, inl, inr, leb-true, le-leb, eqb-true}
use Rattle.std.proofs.lemmas.Bool.{false≢true, or_parts}
use borrow.Author.Tests.{leb-false, lt-leb}
use Rattle.kit.specs.Answer.{Answer, gives, refused}
use Rattle.kit.specs.Pick.{pick, pick_true, pick_false, either, and_l, and_r, or_right}
use Rattle.event.specs.Words.{kind_of, body_of, bit_of}
use Rattle.car.specs.declared.Car.{Car}
use Rattle.car.specs.declared.Settings.{Settings}
use Rattle.car.specs.Car.{fresh_car, settings_of, Permitted, check17, fresh_of, ceiling_of}
use Rattle.car.specs.Good.{good_at, good_of}
use Rattle.car.proofs.FreshLaws.{permitted_good}
use Rattle.record.specs.Layout.{packed, unpacked, car_of}
use Rattle.record.specs.LayoutShape.{Fits}
use Rattle.record.specs.Record.{same_words, offered, read_of}
use Rattle.record.proofs.RecordLaws.{same_eq, packed_read, held_read, read_accepted}
use Rattle.settings.specs.SettingsWord.{settings_kind, mode_of, signs_of, towing_of, start_of}
use Rattle.settings.proofs.SettingsWordLaws.{started_written}
use Rattle.longest_gap.specs.ReaderBefore.{good_before, offering}
use Rattle.longest_gap.proofs.ReaderLaws.{or_none, good_offered, offered_settings, offering_pick}
use Rattle.towing.specs.ReadersBefore.{packed_before, unpacked_before, accepted_before, read_before, bit_14, RecordsAsBefore, made_before, other_before, start_before, bit_3, SettingsAsBefore}

same_answer : {A : Type 0} (a b : A) → gives a ≡ gives b → a ≡ b
same_answer a b h = cc

differ : {A : Type 0} {B : Type 0} (a : A) (n : ℕ) → gives a ≡ refused n → B
differ a n h = let z : ◌≡◌ {A = ℕ} 0 1 = cc in absurd (omega arith)

-- ---- a car alone has the words that it had, and is good as it was
module _ (c : Car) (alone : c.settings.towing ≡ false) where
  packed_alone : packed_before c ≡ packed c
  unfolding packed_before packed bit_of pick
  packed_alone = rw alone refl

  good_alone : good_at 2000 c ≡ good_of c
  unfolding good_of ceiling_of
  good_alone = rw (pick_false {A = ℕ} c.settings.towing 1000 2000 alone) refl

-- ---- a record
module _ (ws : List ℕ) where
  unpacked_alone : (unpacked_before ws).settings.towing ≡ false
  unfolding unpacked_before car_of
  unpacked_alone = refl

  -- what the reader from before takes is the record of its car
  taken : accepted_before ws ≡ true → (good_before 2000 (unpacked_before ws) ≡ true) × (packed_before (unpacked_before ws) ≡ ws)
  unfolding accepted_before
  taken h = search (and_l, and_r, same_eq)

  fits_before : Fits (unpacked_before ws)
  unfolding unpacked_before car_of
  fits_before = omega arith

  -- and its car is a good car alone with 25 for the gap 30, which the record gives still
  good_offered_alone : good_before 2000 (unpacked_before ws) ≡ good_of (offered (unpacked_before ws))
  good_offered_alone =
      let u = unpacked_before ws in
      good_offered 2000 u ∙ good_alone (offered u) (ap (λ (s : Settings). s.towing) (offered_settings u) ∙ unpacked_alone)

  alone_record : (c : Car) → read_before ws ≡ gives c → (c.settings.towing ≡ false) × (read_of ws ≡ gives (offered c))
  unfolding read_before
  alone_record c h =
      let u = unpacked_before ws in
      either (accepted_before ws)
      (λ t.
      let e : u ≡ c = same_answer _ _ (sym (pick_true _ _ _ t) ∙ h) in
      let g : good_of (offered u) ≡ true = sym good_offered_alone ∙ (taken t).0 in
      let p : packed u ≡ ws = sym (packed_alone u unpacked_alone) ∙ (taken t).1 in
      rw (← e) (unpacked_alone, rw p at (held_read u fits_before g)))
      (λ t. differ c 18 (sym h ∙ pick_false _ _ _ t))

  -- it refuses with 18 alone
  refused_with_18 : (n : ℕ) → read_before ws ≡ refused n → read_before ws ≡ refused 18
  unfolding read_before
  refused_with_18 n h =
      either (accepted_before ws) (λ t. differ (unpacked_before ws) n (sym (pick_true _ _ _ t) ∙ h)) (λ t. pick_false _ _ _ t)

  towing_record : (c : Car) → read_of ws ≡ gives c → c.settings.towing ≡ true → read_before ws ≡ refused 18
  towing_record c h t = go (read_before ws) refl
    where
      go : (a : Answer Car) → read_before ws ≡ a → read_before ws ≡ refused 18
      go (gives d) e =
          let k = alone_record d e in
          let s : c ≡ offered d = same_answer c (offered d) (sym h ∙ k.1) in
          let a : c.settings.towing ≡ d.settings.towing = ap (λ (x : Car). x.settings.towing) s ∙ ap (λ (x : Settings). x.towing) (offered_settings d) in
          absurd (false≢true (sym k.0 ∙ sym a ∙ t))
      go (refused n) e = refused_with_18 n e

  unpacked_bit : (unpacked ws).settings.towing ≡ eqb (bit_14 ws) 1
  unfolding unpacked car_of
  unpacked_bit = ap (λ (n : ℕ). eqb n 1) (omega arith)

  towing_bit : (c : Car) → read_of ws ≡ gives c → c.settings.towing ≡ eqb (bit_14 ws) 1
  towing_bit c h = rw (read_accepted ws c h).1 (ap (λ (s : Settings). s.towing) (offered_settings (unpacked ws)) ∙ unpacked_bit)

  -- without the bit the fields are the same, and so is what the two readers give
  unpacked_same : bit_14 ws ≡ 0 → unpacked ws ≡ unpacked_before ws
  unfolding unpacked unpacked_before car_of
  unpacked_same h =
      let w = get_or ws 0 0 in
      let z : w / 2 ^ 2 / 2 ^ 1 / 2 ^ 2 / 2 ^ 3 / 2 ^ 2 / 2 ^ 1 / 2 ^ 1 / 2 ^ 1 / 2 ^ 1 % 2 ^ 1 ≡ 0 = omega arith in
      rw z refl

  old_record : bit_14 ws ≡ 0 → read_of ws ≡ offering (read_before ws)
  unfolding read_of read_before accepted_before
  old_record h =
      let u = unpacked_before ws in
      rw (unpacked_same h, good_offered_alone, packed_alone u unpacked_alone) (offering_pick (good_of (offered u) && same_words (packed u) ws) u)

pub records : (ws : List ℕ) → RecordsAsBefore ws
records ws = record { old = old_record ws; alone = alone_record ws; bit = towing_bit ws; towing = towing_record ws }

-- there are towing records, such as a fresh car's
pub some_record : (mode signs : ℕ) → Permitted mode signs 1
    → (read_of (packed (fresh_car (settings_of mode signs 1))) ≡ gives (fresh_car (settings_of mode signs 1)))
    × (read_before (packed (fresh_car (settings_of mode signs 1))) ≡ refused 18)
unfolding fresh_car settings_of
some_record mode signs p =
    let k = packed_read _ (permitted_good mode signs 1 p) in
    (k, towing_record _ _ k refl)

-- ---- a settings word
module _ (w : ℕ) where
  -- any bit from bit 3 up is refused
  bit_other : 2 ^ 3 ≤ body_of w → other_before w ≡ true
  unfolding other_before
  bit_other h = or_right (not (eqb (kind_of w) settings_kind)) _ (le-leb _ (body_of w) (omega (arith, h)))

  pub bit_word : bit_3 w ≡ 1 → start_before w ≡ refused 17
  unfolding start_before
  bit_word h = pick_true _ _ _ (bit_other (omega arith))

  -- without bit 3 the tests of the two readers are one
  other_same : bit_3 w ≡ 0 → (not (eqb (kind_of w) settings_kind) || leb (2 ^ 4) (body_of w)) ≡ other_before w
  unfolding other_before
  other_same h =
      ap (λ (t : Bool). not (eqb (kind_of w) settings_kind) || t)
      (either (leb (2 ^ 3) (body_of w))
      (λ t. let k = leb-true (2 ^ 3) (body_of w) t in le-leb (2 ^ 4) (body_of w) (omega arith) ∙ sym t)
      (λ t. let k = leb-false (2 ^ 3) (body_of w) t in lt-leb (2 ^ 4) (body_of w) (omega arith) ∙ sym t))

  named : other_before w ≡ false → body_of w < 2 ^ 3
  unfolding other_before
  named t = leb-false (2 ^ 3) (body_of w) (or_parts _ _ t).1

  -- and so are the cars of a word with no other bit set
  made_same : body_of w < 2 ^ 3 → fresh_of (mode_of w) (signs_of w) (towing_of w) ≡ made_before (mode_of w) (body_of w / 2 ^ 2)
  unfolding fresh_of made_before check17 settings_of signs_of towing_of
  made_same h =
      let s : body_of w / 2 ^ 2 % 2 ≡ body_of w / 2 ^ 2 = omega arith in
      let t : body_of w / 2 ^ 3 ≡ 0 = omega arith in
      rw (s, t, or_none (not (eqb (mode_of w) 1) && not (eqb (mode_of w) 2) || ltb 1 (body_of w / 2 ^ 2))) refl

  old_word : bit_3 w ≡ 0 → start_of w ≡ start_before w
  unfolding start_of start_before
  old_word h =
      rw (other_same h)
      (either (other_before w)
      (λ t. pick_true _ _ _ t ∙ sym (pick_true _ _ _ t))
      (λ t. pick_false _ _ _ t ∙ made_same (named t) ∙ sym (pick_false _ _ _ t)))

  made_alone : (c : Car) → made_before (mode_of w) (body_of w / 2 ^ 2) ≡ gives c → c.settings.towing ≡ false
  unfolding made_before fresh_car
  made_alone c h =
      either (not (eqb (mode_of w) 1) && not (eqb (mode_of w) 2) || ltb 1 (body_of w / 2 ^ 2))
      (λ t. differ c 17 (sym h ∙ pick_true _ _ _ t))
      (λ t. rw (← same_answer _ _ (sym (pick_false _ _ _ t) ∙ h)) refl)

  alone_word : (c : Car) → start_before w ≡ gives c → (c.settings.towing ≡ false) × (start_of w ≡ gives c)
  unfolding start_before
  alone_word c h =
      either (other_before w)
      (λ t. differ c 17 (sym h ∙ pick_true _ _ _ t))
      (λ t.
      let b = named t in
      (made_alone c (sym (pick_false _ _ _ t) ∙ h), old_word (omega arith) ∙ h))

  flag_is : (towing_of w ≡ 0) ⊎ (towing_of w ≡ 1) → body_of w / 2 ^ 3 ≡ bit_3 w
  unfolding towing_of
  flag_is (inl e) = omega arith
  flag_is (inr e) = omega arith

  towing_word_bit : (c : Car) → start_of w ≡ gives c → c.settings.towing ≡ eqb (bit_3 w) 1
  unfolding fresh_car settings_of towing_of
  towing_word_bit c h =
      let s = started_written w c h in
      let k : body_of w / 2 ^ 3 ≡ bit_3 w = flag_is s.permitted.towing_flag in
      rw (s.car, k) refl

  towing_word : (c : Car) → start_of w ≡ gives c → c.settings.towing ≡ true → start_before w ≡ refused 17
  towing_word c h t = bit_word (eqb-true (bit_3 w) 1 (sym (towing_word_bit c h) ∙ t))

pub settings_words : (w : ℕ) → SettingsAsBefore w
settings_words w = record { old = old_word w; alone = alone_word w; bit = towing_word_bit w; towing = towing_word w }
