-- Each way out of a lesson and of one word, by the equations that their calls and tests give.
-- Assumes nothing.
use mathlib.Core.Bool.{Bool, true, false, ◌||◌, true≢false}
use mathlib.Core.List.{List}
use mathlib.Core.Path.{◌≡◌, refl, sym, ap, ◌∙◌}
use Prim.Native.Nat.{ℕ, ◌≤◌, ◌<◌}
use native.Mathlib.Omega.{arith}
use borrow.Author.Tests.{lt-ltb, le-ltb, ltb-false}
use lib.Dec.{ltb}
use lib.ListN.{length}
use Rattle.kit.specs.Pick.{pick_true, pick_false}
use Rattle.car.specs.declared.Car.{Car}
use Rattle.car.specs.Mark.{Ran, searched, ran_of, as_taught, unran, run_of, run_after}
use Rattle.car.specs.Lesson.{answer_of, speed_of, untaught, trace_short, trace_of, trace_after}
use Rattle.car.specs.Good.{good_of}
use Rattle.car.specs.LessonShape.{over_of}
use Rattle.car.proofs.LessonShapeLaws.{over_room}
use Rattle.car.proofs.MarkLaws.{searched_0, searched_few, ran_whole}

-- both buffers have room
pub trace_room : (ws answers speeds : List ℕ) → trace_short ws answers speeds ≡ false → (length ws ≤ length answers) × (length ws ≤ length speeds)
unfolding trace_short
trace_room ws answers speeds h = go (ltb (length answers) (length ws)) (ltb (length speeds) (length ws)) refl refl h
  where
    go : (p q : Bool) → ltb (length answers) (length ws) ≡ p → ltb (length speeds) (length ws) ≡ q → (p || q) ≡ false
        → (length ws ≤ length answers) × (length ws ≤ length speeds)
    go true q e f z = absurd (true≢false z)
    go false true e f z = absurd (true≢false z)
    go false false e f z = (ltb-false _ _ e, ltb-false _ _ f)

-- ---- a lesson that stops where a mark is passed
module _ (halt mark : ℕ) (c : Car) (ws answers : List ℕ) where
  pub run_18 : good_of c ≡ false → (unran c 18 ≡ run_of halt mark c ws answers) × (answers ≡ run_after halt c ws answers)
  unfolding run_of run_after
  run_18 g = (sym (pick_false _ _ _ g), sym (pick_false _ _ _ g))

  pub run_19 : good_of c ≡ true → length answers < length ws → (unran c 19 ≡ run_of halt mark c ws answers) × (answers ≡ run_after halt c ws answers)
  unfolding run_of run_after
  run_19 g h = (sym (pick_true _ _ _ g ∙ pick_true _ _ _ (lt-ltb _ _ h)), sym (pick_true _ _ _ g ∙ pick_true _ _ _ (lt-ltb _ _ h)))

  pub run_ran : (t : Ran) (after : List ℕ) → good_of c ≡ true → length ws ≤ length answers → t ≡ ran_of halt mark c ws
      → after ≡ over_of answer_of c (searched halt c ws) answers → (t ≡ run_of halt mark c ws answers) × (after ≡ run_after halt c ws answers)
  unfolding run_of run_after
  run_ran t after g h e f =
      let few : length (searched halt c ws) ≤ length answers = omega (arith, searched_few halt c ws) in (
        e ∙ sym (pick_true _ _ _ g ∙ pick_false _ _ _ (le-ltb _ _ h)),
        f ∙ over_room answer_of c (searched halt c ws) answers few ∙ sym (pick_true _ _ _ g ∙ pick_false _ _ _ (le-ltb _ _ h)),
      )

-- ---- a lesson with a second buffer
module _ (c : Car) (ws answers : List ℕ) where
  module _ (speeds : List ℕ) where
    abbrev short : Bool
    short = trace_short ws answers speeds

    pub trace_18 : good_of c ≡ false
        → (untaught c 18 ≡ trace_of c ws answers speeds) × (answers ≡ trace_after answer_of c ws short answers) × (speeds ≡ trace_after speed_of c ws short speeds)
    unfolding trace_of trace_after
    trace_18 g = (sym (pick_false _ _ _ g), sym (pick_false _ _ _ g), sym (pick_false _ _ _ g))

    pub trace_19 : good_of c ≡ true → short ≡ true
        → (untaught c 19 ≡ trace_of c ws answers speeds) × (answers ≡ trace_after answer_of c ws short answers) × (speeds ≡ trace_after speed_of c ws short speeds)
    unfolding trace_of trace_after
    trace_19 g h =
        (sym (pick_true _ _ _ g ∙ pick_true _ _ _ h), sym (pick_true _ _ _ g ∙ pick_true _ _ _ h), sym (pick_true _ _ _ g ∙ pick_true _ _ _ h))

    pub trace_ran : (mark : ℕ) (t : Ran) (after spoken : List ℕ) → good_of c ≡ true → short ≡ false → length ws ≤ length answers → length ws ≤ length speeds
        → t ≡ ran_of 0 mark c ws → after ≡ over_of answer_of c (searched 0 c ws) answers → spoken ≡ over_of speed_of c (searched 0 c ws) speeds
        → (as_taught t ≡ trace_of c ws answers speeds) × (after ≡ trace_after answer_of c ws short answers) × (spoken ≡ trace_after speed_of c ws short speeds)
    unfolding trace_of trace_after
    trace_ran mark t after spoken g s h k e f q = (
      ap as_taught e ∙ ran_whole c ws mark ∙ sym (pick_true _ _ _ g ∙ pick_false _ _ _ s),
      f ∙ rw (searched_0 c ws) (over_room answer_of c ws answers h) ∙ sym (pick_true _ _ _ g ∙ pick_false _ _ _ s),
      q ∙ rw (searched_0 c ws) (over_room speed_of c ws speeds k) ∙ sym (pick_true _ _ _ g ∙ pick_false _ _ _ s),
    )
