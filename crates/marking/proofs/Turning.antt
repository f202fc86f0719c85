-- What each way through the functions that drive words leaves, by what the calls on it give.
-- Assumes nothing.
use Rattle.std.specs.Prelude.{Some, None, Option, Result, Ok, Err, Bool, true, false, ◌||◌, List, ◌≡◌, refl, ℕ, ◌+◌, ◌*◌, ◌≤◌, ltb, length}
use Rattle.std.specs.Result.{result_ok}
use Rattle.std.proofs.Common.{sym, ap, ◌∙◌, arith}
use Rattle.kit.specs.Pick.{pick, pick_true, pick_false, or_right, not_of_false}
use Rattle.event.specs.declared.refusal.Refusal.{Refusal}
use Rattle.event.proofs.RefusalLaws.{number_pos}
use Rattle.car.specs.Good.{good_of}
use Rattle.car.specs.Lesson.{driven}
use Rattle.car.specs.Mark.{seconds_of}
use Rattle.passing.specs.declared.Marked as marked
use Rattle.passing.specs.Passing.{Counted, Marked, mark_answer, later, onward, passed_of, count_of, mark_of}
use Rattle.passing.proofs.PassingLaws.{event_number_lem}
use Rattle.marking.specs.declared.Stage.{Stage}
use Rattle.marking.specs.declared.Turned.{Turned}
use Rattle.marking.specs.Pieces.{page_answer, page_of, further_of, stuck, idle, words_turn}
use Rattle.marking.proofs.PiecesLaws.{seconds_few, unstuck}

pick_map : {A B : Type 0} (f : A → B) (t : Bool) (a b : A) → f (pick t a b) ≡ pick t (f a) (f b)
unfolding pick
pick_map f true a b = refl
pick_map f false a b = refl

-- what a turn gives by the stage behind so many words, if there is one
abbrev turn_by : Stage → ℕ → Option Stage → Turned
turn_by s n (Some behind) = record { stage = behind; used = 4 * n }
turn_by s n None = idle s

-- ---- some words, from a stage
module _ (mark : ℕ) (s : Stage) (ws : List ℕ) where
  -- by the calls about a lesson: only the seconds are counted behind an event that passed the mark,
  pub counted : (n : ℕ) → s.passed ≡ Some n → (m : Counted) → m ≡ count_of mark s.car ws
      → ◌≡◌ {A = Marked} (record { car = m.car; passed = s.passed; seconds = m.seconds; refusal = m.refusal }) (page_of mark s.car s.events s.passed ws)
  unfolding count_of page_of onward
  counted n p m e = rw (e, p) (pick_map as_marked (good_of s.car) _ _)
    where
      as_marked : Counted → Marked
      as_marked m = record { car = m.car; passed = Some n; seconds = m.seconds; refusal = m.refusal }

  -- and it is looked for while there is none
  pub searched : s.passed ≡ None → (m : Marked) → m ≡ mark_of mark s.car ws
      → ◌≡◌ {A = Marked} (record { car = m.car; passed = later s.events m.passed; seconds = m.seconds; refusal = m.refusal }) (page_of mark s.car s.events s.passed ws)
  unfolding mark_of page_of onward later
  searched p m e = rw (e, p) (pick_map moved (good_of s.car) _ _)
    where
      moved : Marked → Marked
      moved m = record { car = m.car; passed = later s.events m.passed; seconds = m.seconds; refusal = m.refusal }

  -- the number of an event lies within its lesson
  pub found_within : (t : marked.Marked) → mark_answer s.car (Ok t) ≡ mark_of mark s.car ws → (n : ℕ) → t.passed ≡ Some n → n ≤ length ws
  unfolding mark_of
  found_within t e n p = go (good_of s.car) refl
    where
      go : (b : Bool) → good_of s.car ≡ b → n ≤ length ws
      go true g = (event_number_lem mark s.car ws n (sym (ap (λ (m : Marked). m.passed) (e ∙ pick_true _ _ _ g)) ∙ p)).1
      go false g = absurd (omega (arith, ap (λ (m : Marked). m.refusal) (e ∙ pick_false _ _ _ g)))

  -- what is refused had no good car
  pub not_good : (r : Result marked.Marked Refusal) → None ≡ result_ok r → page_answer s r ≡ page_of mark s.car s.events s.passed ws → stuck s ws ≡ true
  unfolding page_of stuck
  not_good (Ok t) n e = let z : ◌≡◌ {A = ℕ} 0 1 = cc in absurd (omega arith)
  not_good (Err r) n e = go (good_of s.car) refl
    where
      go : (b : Bool) → good_of s.car ≡ b → stuck s ws ≡ true
      go true g = number_pos r _ (ap (λ (m : Marked). m.refusal) (e ∙ pick_true _ _ _ g)) refl
      go false g = or_right (ltb 18446744073709551615 (s.events + length ws) || ltb 18446744073709551615 (s.seconds + length ws)) _ (not_of_false _ g)

  module _ (r : Result marked.Marked Refusal) (t : marked.Marked) (o : Some t ≡ result_ok r) (a : page_answer s r ≡ page_of mark s.car s.events s.passed ws) where
    e : page_answer s (Ok t) ≡ page_of mark s.car s.events s.passed ws
    e = go r o a
      where
        go : (r : Result marked.Marked Refusal) → Some t ≡ result_ok r → page_answer s r ≡ page_of mark s.car s.events s.passed ws
            → page_answer s (Ok t) ≡ page_of mark s.car s.events s.passed ws
        go (Ok u) o a = let q : t ≡ u = cc in rw q a
        go (Err x) o a = let z : ◌≡◌ {A = ℕ} 0 1 = cc in absurd (omega arith)

    good : good_of s.car ≡ true
    unfolding page_of
    good = go (good_of s.car) refl
      where
        go : (b : Bool) → good_of s.car ≡ b → good_of s.car ≡ true
        go true g = g
        go false g = absurd (omega (arith, ap (λ (m : Marked). m.refusal) (e ∙ pick_false _ _ _ g)))

    is : page_answer s (Ok t) ≡ record { car = driven s.car ws; passed = onward s.passed s.events (passed_of mark s.car ws); seconds = seconds_of mark s.car ws; refusal = 0 }
    unfolding page_of
    is = e ∙ pick_true _ _ _ good

    seconds_is : t.seconds ≡ seconds_of mark s.car ws
    seconds_is = ap (λ (m : Marked). m.seconds) is

    pub page_few : t.seconds ≤ length ws
    page_few = omega (arith, seconds_is, seconds_few mark s.car ws)

    pub went : s.events + length ws ≤ 18446744073709551615 → s.seconds + length ws ≤ 18446744073709551615
        → ◌≡◌ {A = Option Stage} (Some (record { car = t.car; events = s.events + length ws; passed = t.passed; seconds = s.seconds + t.seconds }))
        (pick (stuck s ws) None (Some (further_of mark s ws)))
    unfolding further_of
    went h k =
        let car : t.car ≡ driven s.car ws = ap (λ (m : Marked). m.car) is in
        let passed : t.passed ≡ onward s.passed s.events (passed_of mark s.car ws) = ap (λ (m : Marked). m.passed) is in
        rw (car, passed, seconds_is) (sym (pick_false _ _ _ (unstuck s ws good (h, k))))

  -- a turn, by the stage behind its words, where there is one
  pub turned : (o : Option Stage) → o ≡ pick (stuck s ws) None (Some (further_of mark s ws)) → turn_by s (length ws) o ≡ words_turn mark s ws
  unfolding words_turn
  turned o e = ap (turn_by s (length ws)) e ∙ pick_map (turn_by s (length ws)) (stuck s ws) _ _
