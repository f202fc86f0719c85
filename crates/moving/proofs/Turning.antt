-- What each way through the function that drives words leaves, by what the call on it gives.
-- Assumes nothing.
use Rattle.std.specs.Prelude.{Bool, true, false, Ok, Err, List, ◌≡◌, refl, ℕ, ◌*◌, ◌≤◌, length}
use Rattle.std.proofs.Common.{sym, ap, ◌∙◌, arith, le-ltb}
use Rattle.kit.specs.Pick.{pick_true, pick_false}
use Rattle.event.specs.declared.refusal.Refusal.{Refusal}
use Rattle.event.proofs.RefusalLaws.{number_pos}
use Rattle.car.specs.declared.Car.{Car}
use Rattle.car.specs.declared.lesson.Taught as lesson
use Rattle.car.specs.Good.{good_of}
use Rattle.car.specs.Lesson.{Taught, lesson_answer, driven, taught_of, untaught, lesson_of}
use Rattle.moving.specs.Pieces.{driven_turn, words_turn}

module _ (c : Car) (ws buffer : List ℕ) (few : length ws ≤ 1024) (room : length buffer ≡ 1024) where
  fits : good_of c ≡ true → lesson_of c ws buffer ≡ taught_of c ws
  unfolding lesson_of
  fits g = pick_true _ _ _ g ∙ pick_false _ _ _ (le-ltb (length buffer) (length ws) (omega arith))

  -- a lesson that is refused had no good car
  pub not_driven : (r : Refusal) → lesson_answer c (Err r) ≡ lesson_of c ws buffer → record { car = c; used = 0 } ≡ words_turn c ws
  unfolding words_turn taught_of
  not_driven r e = go (good_of c) refl
    where
      go : (t : Bool) → good_of c ≡ t → record { car = c; used = 0 } ≡ words_turn c ws
      go true g = number_pos r _ (ap (λ (x : Taught). x.refusal) (e ∙ fits g)) refl
      go false g = sym (pick_false _ _ _ g)

  pub driven_words : (t : lesson.Taught) → lesson_answer c (Ok t) ≡ lesson_of c ws buffer → record { car = t.car; used = 4 * length ws } ≡ words_turn c ws
  unfolding words_turn driven_turn taught_of lesson_of untaught
  driven_words t e = go (good_of c) refl
    where
      go : (b : Bool) → good_of c ≡ b → record { car = t.car; used = 4 * length ws } ≡ words_turn c ws
      go true g = let d : t.car ≡ driven c ws = ap (λ (x : Taught). x.car) (e ∙ fits g) in rw d (sym (pick_true _ _ _ g))
      go false g = absurd (omega (arith, ap (λ (x : Taught). x.refusal) (e ∙ pick_false _ _ _ g)))
