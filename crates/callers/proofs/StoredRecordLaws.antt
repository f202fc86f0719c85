-- A record from a store, whatever gap it holds, is kept bit for bit or is that of the next car.
-- Assumes nothing.
use Rattle.std.specs.Prelude.{true, false, ◌++◌, ◌≡◌, refl, ◌⊎◌, ℕ, eqb, length, drop, Float, Option, Some, None}
use mathlib.Core.List.{List, append-nil}
use Rattle.std.proofs.Common.{inl, inr, sym, ap, subst, ◌∙◌, arith, ne_eqb, eqb-true, drop_of_length-le}
use Rattle.std.proofs.lemmas.Bool.{eqb-false}
use Rattle.kit.specs.Answer.{Answer, gives, refused, number_of}
use Rattle.kit.specs.Pick.{pick, pick_case, either}
use Rattle.car.specs.declared.Car.{Car}
use Rattle.car.specs.Drive.{step_of}
use Rattle.car.specs.Good.{good_of}
use Rattle.car.specs.Lesson.{Taught, driven, taught_of, untaught, lesson_of}
use Rattle.car.proofs.LessonLaws.{driven_good}
use Rattle.car.proofs.StepLaws.{step_good, drive_step}
use Rattle.settings.specs.SettingsWord.{start_of}
use Rattle.settings.proofs.SettingsWordLaws.{started_good}
use Rattle.record.specs.Layout.{packed}
use Rattle.record.specs.Record.{read_of}
use Rattle.record.proofs.RecordLaws.{good_gap, own_record, read_good, read_accepted, saved_kept, good_saved}
use Rattle.record.specs.RecordLesson.{words_left, LessonLeft, lesson_left}
use Rattle.longest_gap.specs.WrittenAgain.{holds_30}
use Rattle.sighting.specs.declared.Sighting.{Sighting}
use Rattle.sighting.specs.Sighting.{seen_of, as_word, seen_word}
use Rattle.cruise.specs.Cruise.{Left, event_left, fresh_left, drive_left, sighting_of, handed_word, see_left}
use Rattle.cruise.proofs.CruiseLaws.{see_driven, see_fault, see_refusal}
use Rattle.callers.specs.Callers.{LibraryCall, cruise_fresh, cruise_drive, cruise_lesson, cruise_see, cruise_test, plain, left}
use Rattle.callers.specs.StoredRecord.{StoredRecord}
use Rattle.callers.proofs.LeftLaws.{event_kept, event_written, lesson_kept, lesson_written}

-- the words of a good car hold no 30
good_holds : (c : Car) → good_of c ≡ true → holds_30 (packed c) ≡ false
unfolding holds_30
good_holds c g = ap (λ (x : Car). eqb x.gap 30) (own_record c g) ∙ ne_eqb c.gap 30 (good_gap c g)

module _ (ws : List ℕ) (c : Car) (is : read_of ws ≡ gives c) where
  is_good : good_of c ≡ true
  is_good = read_good ws c is

  is_twelve : length ws ≡ 12
  is_twelve = (read_accepted ws c is).0.twelve

  -- kept, or 30 no more
  abbrev Kept : Left → Type 0
  Kept l = (l.words ≡ ws) ⊎ (holds_30 l.words ≡ false)

  -- ---- a fresh car
  fresh_kept : (a : Answer Car) → ((fresh_left ws a).refusal ≡ 0 → ⊥) → (fresh_left ws a).words ≡ ws
  unfolding fresh_left
  fresh_kept (gives d) n = saved_kept d ws n
  fresh_kept (refused n) h = refl

  fresh_no_more : (w : ℕ) (a : Answer Car) → start_of w ≡ a → Kept (fresh_left ws a)
  unfolding fresh_left
  fresh_no_more w (gives d) e =
      let g = started_good w d e in
      let s = (good_saved d ws g (omega (arith, is_twelve))).1 in
      let p : packed d ++ drop 12 ws ≡ packed d = rw (drop_of_length-le ws {i = 12} (omega (arith, is_twelve))) (append-nil (packed d)) in
      inr (ap holds_30 (s ∙ p) ∙ good_holds d g)
  fresh_no_more w (refused n) e = inl refl

  -- ---- a word
  drive_is : (w : ℕ) → drive_left ws (read_of ws) w ≡ record { refusal = (step_of c w).refusal; words = event_left ws (step_of c w).refusal (step_of c w).car }
  unfolding drive_left
  drive_is w = rw (is, drive_step c w is_good) refl

  drive_kept : (w : ℕ) → ((drive_left ws (read_of ws) w).refusal ≡ 0 → ⊥) → (drive_left ws (read_of ws) w).words ≡ ws
  drive_kept w = rw (drive_is w) (event_kept ws (step_of c w).refusal (step_of c w).car)

  drive_written : (w : ℕ) → (drive_left ws (read_of ws) w).refusal ≡ 0 → (drive_left ws (read_of ws) w).words ≡ packed (step_of c w).car
  drive_written w = rw (drive_is w) (event_written ws (step_of c w).refusal (step_of c w).car)

  drive_no_more : (w : ℕ) → Kept (drive_left ws (read_of ws) w)
  drive_no_more w = either (eqb (drive_left ws (read_of ws) w).refusal 0)
      (λ t. inr (ap holds_30 (drive_written w (eqb-true _ 0 t)) ∙ good_holds (step_of c w).car (step_good c w is_good)))
      (λ t. inl (drive_kept w (eqb-false _ 0 t)))

  -- ---- a lesson
  abbrev lesson : List ℕ → List ℕ → LessonLeft
  lesson events answers = lesson_left 0 ws (read_of ws) events answers

  lesson_is : (events answers : List ℕ)
      → ((lesson events answers).refusal ≡ (lesson_of c events answers).refusal)
      × ((lesson events answers).words ≡ words_left 0 ws (lesson_of c events answers))
  unfolding lesson_left
  lesson_is events answers = rw is (refl, refl)

  lesson_stays : (events answers : List ℕ) → ((lesson events answers).refusal ≡ 0 → ⊥) → (lesson events answers).words ≡ ws
  lesson_stays events answers n =
      let l = lesson_is events answers in
      l.1 ∙ lesson_kept ws (lesson_of c events answers) (λ z. n (l.0 ∙ z))

  -- a lesson that ran drove all its words
  lesson_ran : (events answers : List ℕ) → (lesson_of c events answers).refusal ≡ 0 → (lesson_of c events answers).car ≡ driven c events
  unfolding lesson_of taught_of untaught
  lesson_ran events answers =
      pick_case (λ (t : Taught). t.refusal ≡ 0 → t.car ≡ driven c events) _ _ _
      (λ _. pick_case (λ (t : Taught). t.refusal ≡ 0 → t.car ≡ driven c events) _ _ _ (λ _ z. absurd (omega arith)) (λ _ z. refl))
      (λ _ z. absurd (omega arith))

  lesson_writes : (events answers : List ℕ) → (lesson events answers).refusal ≡ 0 → (lesson events answers).words ≡ packed (driven c events)
  lesson_writes events answers z =
      let l = lesson_is events answers in
      let r = sym l.0 ∙ z in
      l.1 ∙ lesson_written ws (lesson_of c events answers) r ∙ ap packed (lesson_ran events answers r)

  lesson_no_more : (events answers : List ℕ) → ((lesson events answers).words ≡ ws) ⊎ (holds_30 (lesson events answers).words ≡ false)
  lesson_no_more events answers = either (eqb (lesson events answers).refusal 0)
      (λ t. inr (ap holds_30 (lesson_writes events answers (eqb-true _ 0 t)) ∙ good_holds (driven c events) (driven_good c events is_good)))
      (λ t. inl (lesson_stays events answers (eqb-false _ 0 t)))

  -- ---- a sighting
  see_kept : (s : Answer Sighting) (a : Answer (Option ℕ)) → handed_word s ≡ a → ((see_left ws (read_of ws) s).refusal ≡ 0 → ⊥) → (see_left ws (read_of ws) s).words ≡ ws
  see_kept s (gives (Some w)) h n = subst (λ (l : Left). (l.refusal ≡ 0 → ⊥) → l.words ≡ ws) (see_driven ws s w h) (drive_kept w) n
  see_kept s (gives None) h n = ap (λ (l : Left). l.words) (sym (see_fault ws s h))
  see_kept s (refused m) h n = ap (λ (l : Left). l.words) (sym (see_refusal ws s m h))

  see_no_more : (s : Answer Sighting) (a : Answer (Option ℕ)) → handed_word s ≡ a → Kept (see_left ws (read_of ws) s)
  see_no_more s (gives (Some w)) h = subst Kept (see_driven ws s w h) (drive_no_more w)
  see_no_more s (gives None) h = inl (ap (λ (l : Left). l.words) (sym (see_fault ws s h)))
  see_no_more s (refused m) h = inl (ap (λ (l : Left). l.words) (sym (see_refusal ws s m h)))

  fault_kept : (metres kmh : Float) → see_left ws (read_of ws) (sighting_of 2 metres kmh) ≡ record { refusal = 0; words = ws }
  unfolding sighting_of handed_word seen_word as_word seen_of pick number_of
  fault_kept metres kmh = sym (see_fault ws (sighting_of 2 metres kmh) refl) ∙ rw is refl

  -- ---- any call
  refused_kept : (k : LibraryCall) → ((left ws k).refusal ≡ 0 → ⊥) → (left ws k).words ≡ ws
  unfolding left plain
  refused_kept (cruise_fresh w) = fresh_kept (start_of w)
  refused_kept (cruise_drive w) = drive_kept w
  refused_kept (cruise_lesson events answers) = lesson_stays events answers
  refused_kept (cruise_see kind metres kmh) = see_kept (sighting_of kind metres kmh) _ refl
  refused_kept cruise_test = λ n. refl

  held_no_more : (k : LibraryCall) → ((left ws k).words ≡ ws) ⊎ (holds_30 (left ws k).words ≡ false)
  unfolding left plain
  held_no_more (cruise_fresh w) = fresh_no_more w (start_of w) refl
  held_no_more (cruise_drive w) = drive_no_more w
  held_no_more (cruise_lesson events answers) = lesson_no_more events answers
  held_no_more (cruise_see kind metres kmh) = see_no_more (sighting_of kind metres kmh) _ refl
  held_no_more cruise_test = inl refl

  pub stored_record : StoredRecord ws c
  unfolding left plain number_of
  stored_record = record {
    refused = refused_kept;
    fault = λ metres kmh. ap plain (fault_kept metres kmh);
    test = rw is refl;
    word = drive_written;
    sighting = λ kind metres kmh w h. ap plain (sym (see_driven ws (sighting_of kind metres kmh) w h));
    lesson = lesson_writes;
    no_more = held_no_more;
  }
