-- A car alone goes as before, word by word, and so do lists of words and an exercise file: document 02, §11.
-- Assumes nothing.
use Rattle.std.specs.Prelude.{Bool, true, false, ◌≡◌, refl, List, [], ◌∷◌, ℕ, ◌+◌, ◌≤◌, min, leb, drop}
use Rattle.std.proofs.Common.{sym, ◌∙◌, arith, leb-true}
use Rattle.kit.specs.Answer.{Answer, gives, refused}
use Rattle.kit.specs.Pick.{pick_false, pick_case, pick_le}
use Rattle.event.specs.declared.Input.{Input}
use Rattle.event.specs.declared.Input.TheVariants.{Key, UpDown, ForeBack, Brake, Gas, Button, Gap, Sign, Radar}
use Rattle.event.specs.declared.Event.{Event}
use Rattle.event.specs.declared.Event.TheVariants as event
use Rattle.event.specs.Words.{read_of}
use Rattle.desired.specs.Desired.{sign_gives, sign_desired}
use Rattle.car.specs.declared.Car.{Car}
use Rattle.car.specs.Car.{ceiling_of, with_levers}
use Rattle.car.specs.Drive.{input_next, event_next, reading_next, next_of, step_of}
use Rattle.car.specs.Good.{good_of}
use Rattle.car.specs.Lesson.{driven, each_of, answers_of}
use Rattle.car.specs.Rules.{lever_desired, up_down_moved, with_foreback, start_desired, forward, fore_back_moved, sign_after, sign_passed, hold_desired, tick_desired, ticked}
use Rattle.car.specs.Standing.{Good}
use Rattle.car.proofs.GoodLaws.{good}
use Rattle.car.proofs.LessonLaws.{driven_good}
use Rattle.car.proofs.StepLaws.{step_good}
use Rattle.settings.specs.SettingsWord.{start_of}
use Rattle.settings.proofs.SettingsWordLaws.{started_good}
use Rattle.wire.specs.Wire.{word_at, words_of}
use Rattle.listing.specs.Listing.{refused_text}
use Rattle.exercise.specs.Exercise.{events_text, lesson_text, started_text, listing_of}
use Rattle.towing.specs.ReadersBefore.{start_before, bit_3}
use Rattle.towing.specs.RulesBefore.{lever_before, up_down_before, forward_before, fore_back_before, sign_before, hold_before, held_before, ticked_before, input_before, event_before, reading_before, step_before, driven_before, answers_before, events_before, started_before, listing_before, AloneAsBefore, FilesAsBefore}
use Rattle.towing.proofs.ReadersBeforeLaws.{settings_words, bit_word}
use Rattle.history.proofs.SettingsLaws.{step_settings, driven_settings}

-- a sign's D needs no cut at a ceiling of 1300 or more that D and E keep to
sign_gives_le : (s d e k : ℕ) → d ≤ k → e ≤ k → 1300 ≤ k → sign_gives s d e ≤ k
unfolding sign_gives
sign_gives_le s d e k hd he hk =
    pick_case (λ (n : ℕ). n ≤ k) (leb s 1300) _ _ (λ t. let h = leb-true s 1300 t in omega arith)
    (λ _. pick_le _ _ _ _ (omega arith) (pick_le _ _ _ _ he hd))

ceiling_alone : (c : Car) → c.settings.towing ≡ false → ceiling_of c.settings ≡ 2000
unfolding ceiling_of
ceiling_alone c e = pick_false {A = ℕ} c.settings.towing 1000 2000 e

module _ (c : Car) (alone : c.settings.towing ≡ false) where
  up_down_same : (x : ℕ) → up_down_moved c x ≡ up_down_before c x
  unfolding up_down_moved up_down_before lever_desired lever_before
  up_down_same x = rw (ceiling_alone c alone) refl

  forward_same : forward c ≡ forward_before c
  unfolding forward forward_before start_desired
  forward_same = rw (ceiling_alone c alone) refl

  sign_same : Good c → (s : ℕ) → sign_passed c s ≡ sign_before c s
  unfolding sign_passed sign_before sign_after sign_desired
  sign_same g s =
      let t = ceiling_alone c alone in
      let d : sign_gives s c.cruise.desired c.cruise.manual ≤ 2000 =
      sign_gives_le s _ _ 2000 (omega (arith, t, g.ranges.desired)) (omega (arith, t, g.ranges.manual)) (omega arith) in
      let m : min 2000 (sign_gives s c.cruise.desired c.cruise.manual) ≡ sign_gives s c.cruise.desired c.cruise.manual = omega arith in
      rw (t, m) refl

  tick_same : (ready : Bool) → ticked c ready ≡ ticked_before c ready
  unfolding ticked ticked_before tick_desired held_before hold_desired hold_before
  tick_same ready = rw (ceiling_alone c alone) refl

fore_back_same : (c : Car) → c.settings.towing ≡ false → (y : ℕ) → fore_back_moved c y ≡ fore_back_before c y
unfolding fore_back_moved fore_back_before with_foreback with_levers
fore_back_same c alone y = rw (forward_same (with_foreback c y) alone) refl

module _ (c : Car) (g : Good c) (alone : c.settings.towing ≡ false) where
  input_same : (i : Input) → input_next c i ≡ input_before c i
  unfolding input_next input_before
  input_same (Key position ready) = refl
  input_same (UpDown x) = up_down_same c alone x
  input_same (ForeBack y) = fore_back_same c alone y
  input_same (Brake x) = refl
  input_same (Gas x) = refl
  input_same (Button limit) = refl
  input_same (Gap tenths) = refl
  input_same (Sign s) = sign_same c alone g s
  input_same (Radar range speed) = refl

  event_same : (e : Event) → event_next c e ≡ event_before c e
  unfolding event_next event_before
  event_same (event.Input i) = input_same i
  event_same (event.Tick ready) = tick_same c alone ready

  step_same : (w : ℕ) → step_of c w ≡ step_before c w
  unfolding step_of step_before next_of reading_next reading_before
  step_same w = rw (go (read_of w)) refl
    where
      go : (r : Answer Event) → reading_next c r ≡ reading_before c r
      go (refused n) = refl
      go (gives e) = event_same e

-- ---- words one after the other
step_alone : (c : Car) (w : ℕ) → c.settings.towing ≡ false → (step_of c w).car.settings.towing ≡ false
step_alone c w e = rw (step_settings c w) e

driven_same : (c : Car) (ws : List ℕ) → good_of c ≡ true → c.settings.towing ≡ false → driven c ws ≡ driven_before c ws
unfolding driven driven_before
driven_same c [] g e = refl
driven_same c (w ∷ ws) g e = rw (← step_same c (good c g) e w) (driven_same (step_of c w).car ws (step_good c w g) (step_alone c w e))

answers_same : (c : Car) (ws : List ℕ) → good_of c ≡ true → c.settings.towing ≡ false → answers_of c ws ≡ answers_before c ws
unfolding each_of answers_before
answers_same c [] g e = refl
answers_same c (w ∷ ws) g e =
    rw (← step_same c (good c g) e w, answers_same (step_of c w).car ws (step_good c w g) (step_alone c w e)) refl

pub alone_as_before : (c : Car) (ws : List ℕ) → good_of c ≡ true → c.settings.towing ≡ false → AloneAsBefore c ws
alone_as_before c ws g e = record {
  each = λ us w vs _. step_same (driven c us) (good _ (driven_good c us g)) (rw (driven_settings c us) e) w;
  car = driven_same c ws g e;
  answers = answers_same c ws g e;
}

-- ---- an exercise file
events_same : (number : ℕ) (c : Car) (ws : List ℕ) → good_of c ≡ true → c.settings.towing ≡ false → events_text number c ws ≡ events_before number c ws
unfolding events_text events_before
events_same number c [] g e = refl
events_same number c (w ∷ ws) g e =
    rw (← step_same c (good c g) e w, events_same (number + 1) (step_of c w).car ws (step_good c w g) (step_alone c w e)) refl

-- from the car that both readers of the settings word give
started_same : (w : ℕ) (bs : List ℕ) → bit_3 w ≡ 0 → started_text (start_of w) bs ≡ started_before (start_before w) bs
unfolding started_text started_before lesson_text
started_same w bs h = let s = settings_words w in rw (← s.old h) (go (start_of w) refl)
  where
    go : (a : Answer Car) → start_of w ≡ a → started_text a bs ≡ started_before a bs
    go (refused n) e = refl
    go (gives c) e =
        let s = settings_words w in
        rw (events_same 1 c (words_of bs) (started_good w c e) (s.alone c (sym (s.old h) ∙ e)).0) refl

module _ (bs : List ℕ) where
  old_file : bit_3 (word_at bs 0) ≡ 0 → listing_of bs ≡ listing_before bs
  unfolding listing_of listing_before
  old_file h = rw (started_same (word_at bs 0) (drop 4 bs) h) refl

  towing_file : bit_3 (word_at bs 0) ≡ 1 → listing_before bs ≡ refused_text 17
  unfolding listing_before started_before
  towing_file h = rw (bit_word (word_at bs 0) h) (pick_case (λ (t : List ℕ). t ≡ refused_text 17) _ _ _ (λ _. refl) (λ _. refl))

pub files : (bs : List ℕ) → FilesAsBefore bs
files bs = record { old = old_file bs; towing = towing_file bs }
