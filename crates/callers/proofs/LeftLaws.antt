-- What a call on a record leaves of its words: they are kept, or they are those of its car.
-- Assumes nothing.
use Rattle.std.specs.Prelude.{◌≡◌, refl, List, ℕ, eqb}
use Rattle.std.proofs.Common.{sym, ap, ◌∙◌, arith, le-ltb, eqb-true, ne_eqb}
use Rattle.std.proofs.lemmas.Bool.{eqb-false}
use Rattle.kit.specs.Pick.{pick, pick_false, pick_case, either}
use Rattle.car.specs.declared.Car.{Car}
use Rattle.car.specs.Drive.{Driven, drive_of, step_of, chosen}
use Rattle.car.specs.Lesson.{Taught, taught_of, untaught, lesson_of}
use Rattle.record.specs.Layout.{packed}
use Rattle.record.specs.RecordLesson.{words_left}
use Rattle.cruise.specs.Cruise.{event_left}

-- ---- a refused call leaves the car
pub drive_refused : (c : Car) (w : ℕ) → ((drive_of c w).refusal ≡ 0 → ⊥) → (drive_of c w).car ≡ c
unfolding drive_of step_of chosen
drive_refused c w =
    pick_case (λ (d : Driven). (d.refusal ≡ 0 → ⊥) → d.car ≡ c) _ _ _
    (λ _. pick_case (λ (d : Driven). (d.refusal ≡ 0 → ⊥) → d.car ≡ c) _ _ _ (λ _ n. absurd (n refl)) (λ _ n. refl))
    (λ _ n. refl)

pub lesson_refused : (c : Car) (ws buffer : List ℕ) → ((lesson_of c ws buffer).refusal ≡ 0 → ⊥) → (lesson_of c ws buffer).car ≡ c
unfolding lesson_of taught_of untaught
lesson_refused c ws buffer =
    pick_case (λ (t : Taught). (t.refusal ≡ 0 → ⊥) → t.car ≡ c) _ _ _
    (λ _. pick_case (λ (t : Taught). (t.refusal ≡ 0 → ⊥) → t.car ≡ c) _ _ _ (λ _ n. refl) (λ _ n. absurd (n refl)))
    (λ _ n. refl)

-- ---- the words
pub event_kept : (words : List ℕ) (n : ℕ) (c : Car) → (n ≡ 0 → ⊥) → event_left words n c ≡ words
unfolding event_left
event_kept words n c h = pick_false _ _ _ (ne_eqb n 0 h)

pub event_written : (words : List ℕ) (n : ℕ) (c : Car) → n ≡ 0 → event_left words n c ≡ packed c
unfolding event_left pick
event_written words n c h = rw h

pub lesson_kept : (words : List ℕ) (t : Taught) → (t.refusal ≡ 0 → ⊥) → words_left 0 words t ≡ words
unfolding words_left pick
lesson_kept words t h = rw (ne_eqb t.refusal 0 h)

pub lesson_written : (words : List ℕ) (t : Taught) → t.refusal ≡ 0 → words_left 0 words t ≡ packed t.car
unfolding words_left pick
lesson_written words t h = rw (h, le-ltb t.accepted 0 (omega arith))

-- of the car's own record they are its record in both cases
module _ (words : List ℕ) (c : Car) (own : words ≡ packed c) where
  event_own : (d : Driven) → ((d.refusal ≡ 0 → ⊥) → d.car ≡ c) → event_left words d.refusal d.car ≡ packed d.car
  event_own d k = either (eqb d.refusal 0)
      (λ t. event_written words d.refusal d.car (eqb-true d.refusal 0 t))
      (λ t. let n = eqb-false d.refusal 0 t in event_kept words d.refusal d.car n ∙ own ∙ ap packed (sym (k n)))

  pub drive_own : (w : ℕ) → event_left words (drive_of c w).refusal (drive_of c w).car ≡ packed (drive_of c w).car
  drive_own w = event_own (drive_of c w) (drive_refused c w)

  pub lesson_own : (ws buffer : List ℕ) → words_left 0 words (lesson_of c ws buffer) ≡ packed (lesson_of c ws buffer).car
  lesson_own ws buffer =
      let t = lesson_of c ws buffer in
      either (eqb t.refusal 0)
      (λ z. lesson_written words t (eqb-true t.refusal 0 z))
      (λ z. let n = eqb-false t.refusal 0 z in lesson_kept words t n ∙ own ∙ ap packed (sym (lesson_refused c ws buffer n)))
