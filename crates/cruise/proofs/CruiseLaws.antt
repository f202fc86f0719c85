-- Laws of the library's definitions, by equations, as the code's exits have them.
-- Assumes nothing.
use Rattle.std.specs.Prelude.{Bool, List, [], ◌∷◌, ℕ, ◌+◌, ◌≤◌, eqb, ltb, get_or, Option, Some, None, Result, Ok, Err, unwrap_or}
use Rattle.std.specs.Result.{result_err}
use Rattle.std.proofs.Math.Bool.{true, false}
use Rattle.std.proofs.Math.Path.{◌≡◌, refl}
use Rattle.std.proofs.Common.{sym, ap, ◌∙◌, arith, ne_eqb}
use Rattle.kit.specs.Answer.{Answer, gives, refused, number_of}
use Rattle.kit.specs.Pick.{pick, pick_true, pick_false, pick_case}
use Rattle.event.specs.declared.refusal.Refusal.{Refusal}
use Rattle.event.specs.Refusal.{refusal_number, answer, number}
use Rattle.event.proofs.RefusalLaws.{number_pos}
use Rattle.sighting.proofs.SightingLaws.{given_refused, word_refused}
use Rattle.passing.specs.declared.Marked as marked
use Rattle.passing.specs.Passing.{Marked, event_number, mark_answer, mark_of}
use Rattle.answer.specs.declared.Answer as answerdata
use Rattle.answer.specs.AnswerWord as answerword
use Rattle.car.specs.declared.Car.{Car}
use Rattle.car.specs.Figures.{Figures, figures_of, shown, no_figures}
use Rattle.car.proofs.AccelerationLaws.{acceleration_size}
use Rattle.car.proofs.AnswerLaws.{step_shows}
use Rattle.car.specs.Drive.{step_of}
use Rattle.car.specs.Good.{good_of}
use Rattle.car.proofs.GoodLaws.{good}
use Rattle.car.specs.Lesson.{answer_of, driven, each_of, accepted_of, each_after, answers_after, taught_of, lesson_of}
use Rattle.car.proofs.StepLaws.{drive_step}
use Rattle.record.specs.Record.{read_of}
use Rattle.record.proofs.RecordLaws.{refused_18, read_good}
use Rattle.record.specs.RecordLesson.{words_left, LessonLeft, lesson_left}
use Rattle.record.specs.Layout.{packed}
use Rattle.sighting.specs.declared.Sighting.{Sighting}
use Rattle.scene.specs.See.{see_of}
use Rattle.scene.specs.SeeShape.{kept_of}
use Rattle.scene.proofs.SeeLaws.{see_word, see_none, see_refused}
use Rattle.cruise.specs.Cruise.{Left, event_left, drive_left, figures_read, mark_found, mark_left, handed_word, saw_left, see_left}

-- ---- one event word is a lesson of one word, whose answer word holds the refusal in bits 0-4
module _ (c : Car) (w : ℕ) (g : good_of c ≡ true) where
  lesson_one : lesson_of c (w ∷ []) (0 ∷ []) ≡ taught_of c (w ∷ [])
  unfolding lesson_of pick
  lesson_one = rw g

  answers_one : answers_after c (w ∷ []) (0 ∷ []) ≡ answer_of (step_of c w) ∷ []
  unfolding each_after each_of pick
  answers_one = rw g

-- accepted, the lesson's one word is counted
left_one : (words : List ℕ) (c : Car) (w : ℕ) → words_left 1 words (taught_of c (w ∷ [])) ≡ event_left words (step_of c w).refusal (step_of c w).car
unfolding words_left taught_of driven accepted_of event_left pick
left_one words c w = go (eqb (step_of c w).refusal 0)
  where
    go : (t : Bool) → pick (ltb (pick t 1 0 + 0) 1) words (packed (step_of c w).car) ≡ pick t (packed (step_of c w).car) words
    go true = refl
    go false = refl

module _ (words : List ℕ) (w : ℕ) where
  abbrev one : Answer Car → LessonLeft
  one r = lesson_left 1 words r (w ∷ []) (0 ∷ [])

  pub drive_refused : (l : LessonLeft) → l ≡ one (read_of words) → (l.refusal ≡ 0 → ⊥)
      → ◌≡◌ {A = Left} (record { refusal = l.refusal; words = l.words }) (drive_left words (read_of words) w)
  unfolding lesson_left drive_left taught_of
  drive_refused l e n = rw e (go (read_of words) refl (λ z. n (rw e z)))
    where
      go : (r : Answer Car) → read_of words ≡ r → ((one r).refusal ≡ 0 → ⊥)
          → ◌≡◌ {A = Left} (record { refusal = (one r).refusal; words = (one r).words }) (drive_left words r w)
      go (gives c) h z = absurd (z (rw (lesson_one c w (read_good words c h))))
      go (refused n) h z = refl

  pub drive_answered : (l : LessonLeft) (a : answerdata.Answer) → l ≡ one (read_of words) → l.refusal ≡ 0 → a ≡ answerword.read_of (get_or l.answers 0 0)
      → ◌≡◌ {A = Left} (record { refusal = a.refusal; words = l.words }) (drive_left words (read_of words) w)
  unfolding lesson_left drive_left taught_of driven answerword.read_of
  drive_answered l a e z ea = rw (ea, e) (go (read_of words) refl (rw e at z))
    where
      go : (r : Answer Car) → read_of words ≡ r → (one r).refusal ≡ 0
          → ◌≡◌ {A = Left} (record { refusal = (answerword.read_of (get_or (one r).answers 0 0)).refusal; words = (one r).words }) (drive_left words r w)
      go (gives c) h y =
          let g = read_good words c h in
          rw (lesson_one c w g, answers_one c w g, drive_step c w g, (step_shows c w g).refusal, left_one words c w)
      go (refused n) h y = let e = (refused_18 words n h).0 in absurd (omega arith)

-- a figure's acceleration fits
figures_small : (c : Car) → (figures_of c).acceleration.size ≤ 60
unfolding figures_of shown no_figures
figures_small c =
    pick_case (λ (f : Figures). f.acceleration.size ≤ 60) (good_of c) _ _
    (λ t. let small = acceleration_size c (good c t).ranges in omega arith)
    (λ t. omega arith)

pub dial_small : (r : Answer Car) → (figures_read r).acceleration.size ≤ 60
unfolding figures_read
dial_small (gives c) = figures_small c
dial_small (refused n) = omega arith

-- ---- results in the definitions' terms
pub number_answer : {A : Type 0} (r : Result A Refusal) → number r ≡ number_of (answer r)
unfolding number_of
number_answer (Ok a) = refl
number_answer (Err r) = refl

-- a mark's result of the record's car
pub marked_found : (mark : ℕ) (c : Car) (ws : List ℕ) (r : Result marked.Marked Refusal) → mark_answer c r ≡ mark_of mark c ws → mark_found r ≡ mark_left mark (gives c) ws
unfolding mark_left event_number
marked_found mark c ws (Ok m) e = ap (λ (x : Marked). record { refusal = x.refusal; event = event_number x.passed; seconds = x.seconds }) e
marked_found mark c ws (Err r) e = ap (λ (x : Marked). record { refusal = x.refusal; event = event_number x.passed; seconds = x.seconds }) e

-- the number of an event that is there, else 0
pub event_or_0 : (p : Option ℕ) → unwrap_or p 0 ≡ event_number p
unfolding event_number
event_or_0 (Some n) = refl
event_or_0 None = refl

-- a record's own refusal comes first
pub refusal_first : (r : Result Car Refusal) (n : Refusal) (a : Answer Car) → answer r ≡ a → refusal_number (unwrap_or (result_err r) n) ≡ pick (eqb (number_of a) 0) (refusal_number n) (number_of a)
unfolding number_of
refusal_first (Ok c) n a e = rw (← e) (sym (pick_true _ _ _ refl))
refusal_first (Err r) n a e = rw (← e) (sym (pick_false _ _ _ (ne_eqb _ _ (number_pos r _ refl))))

-- ---- a sighting is driven by its event's word, and with none the record is only tested
module _ (words : List ℕ) where
  pub see_driven : (a : Answer Sighting) (w : ℕ) → handed_word a ≡ gives (Some w) → drive_left words (read_of words) w ≡ see_left words (read_of words) a
  unfolding handed_word drive_left see_left saw_left pick
  see_driven (refused n) w h = absurd (given_refused n (sym h))
  see_driven (gives s) w h = go (read_of words)
    where
      go : (r : Answer Car) → drive_left words r w ≡ see_left words r (gives s)
      go (gives c) = rw (see_word c s w h) refl
      go (refused n) = refl

  -- with no event the record is kept
  kept_fault : (c : Car) (s : Sighting) → read_of words ≡ gives c → see_of c s ≡ kept_of c 0 true
      → ◌≡◌ {A = Left} (record { refusal = 0; words = words }) (saw_left words (see_of c s))
  unfolding kept_of saw_left pick
  kept_fault c s h e = rw (e ∙ pick_true _ _ _ (read_good words c h)) refl

  kept_refusal : (c : Car) (s : Sighting) (n : ℕ) → read_of words ≡ gives c → see_of c s ≡ kept_of c n false → (n ≡ 0 → ⊥)
      → ◌≡◌ {A = Left} (record { refusal = n; words = words }) (saw_left words (see_of c s))
  unfolding kept_of saw_left event_left pick
  kept_refusal c s n h e z = rw (e ∙ pick_true _ _ _ (read_good words c h), ne_eqb n 0 z) refl

  pub see_fault : (a : Answer Sighting) → handed_word a ≡ gives None
      → ◌≡◌ {A = Left} (record { refusal = number_of (read_of words); words = words }) (see_left words (read_of words) a)
  unfolding handed_word see_left number_of
  see_fault (refused n) h = absurd (given_refused n (sym h))
  see_fault (gives s) h = go (read_of words) refl
    where
      go : (r : Answer Car) → read_of words ≡ r → ◌≡◌ {A = Left} (record { refusal = number_of r; words = words }) (see_left words r (gives s))
      go (gives c) e = kept_fault c s e (see_none c s h)
      go (refused n) e = refl

  pub see_refusal : (a : Answer Sighting) (n : ℕ) → handed_word a ≡ refused n
      → ◌≡◌ {A = Left} (record { refusal = pick (eqb (number_of (read_of words)) 0) n (number_of (read_of words)); words = words }) (see_left words (read_of words) a)
  unfolding handed_word see_left number_of pick
  see_refusal a n h = go (read_of words) refl a h
    where
      go : (r : Answer Car) → read_of words ≡ r → (a : Answer Sighting) → handed_word a ≡ refused n
          → ◌≡◌ {A = Left} (record { refusal = pick (eqb (number_of r) 0) n (number_of r); words = words }) (see_left words r a)
      go (gives c) e (gives s) h = kept_refusal c s n e (see_refused c s n h) (word_refused s n h)
      go (gives c) e (refused m) h = let z : n ≡ m = cc h in rw z refl
      go (refused m) e a h = rw (refused_18 words m e).0 refl
