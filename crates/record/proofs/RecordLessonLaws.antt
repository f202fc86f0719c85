-- Laws of a lesson of a record's car, by equations, as the code's exits have them.
-- Assumes nothing.
use Rattle.std.specs.Prelude.{Bool, true, false, ◌&&◌, ◌≡◌, refl, ℕ, ◌≤◌, ◌<◌, ltb}
use mathlib.Core.List.{List}
use Rattle.std.proofs.Common.{sym, ap, ◌∙◌, arith, ne_eqb, le-ltb, lt-ltb}
use Rattle.std.proofs.Math.ListN.{length}
use Rattle.kit.specs.Answer.{Answer, gives, refused}
use Rattle.kit.specs.Pick.{pick, pick_true, pick_false, pick_case}
use Rattle.car.specs.declared.Car.{Car}
use Rattle.car.specs.Mark.{Ran, searched, ran_of, as_taught, unran, run_of, run_after}
use Rattle.car.specs.Lesson.{Taught, answers_after}
use Rattle.car.specs.Good.{good_of}
use Rattle.car.proofs.LessonLaws.{driven_good}
use Rattle.car.proofs.MarkLaws.{run_whole, after_whole}
use Rattle.record.specs.Layout.{packed, unpacked}
use Rattle.record.specs.LayoutShape.{Fits}
use Rattle.record.proofs.LayoutLaws.{good_fits}
use Rattle.record.specs.Record.{same_words, offered, read_of}
use Rattle.record.specs.RecordLesson.{words_left, lesson_left, RunLeft, run_left, as_lesson, ran_left}

module _ (halt mark : ℕ) (c : Car) (events answers : List ℕ) where
  -- 18 exactly for a car that is not good
  run_known : ((run_of halt mark c events answers).refusal ≡ 18 → ⊥) → good_of c ≡ true
  unfolding run_of unran
  run_known =
      pick_case (λ (t : Ran). (t.refusal ≡ 18 → ⊥) → good_of c ≡ true) (good_of c) _ _ (λ g n. g) (λ g n. absurd (n refl))

  run_good : good_of c ≡ true → good_of (run_of halt mark c events answers).car ≡ true
  unfolding run_of unran ran_of
  run_good g =
      rw (pick_true _ _ _ g)
      (pick_case (λ (t : Ran). good_of t.car ≡ true) (ltb (length answers) (length events)) _ _ (λ t. g) (λ t. driven_good c (searched halt c events) g))

  pub run_fits : ((run_of halt mark c events answers).refusal ≡ 18 → ⊥) → Fits (run_of halt mark c events answers).car
  run_fits n = good_fits _ (run_good (run_known n))

  run_bad : good_of c ≡ false → run_of halt mark c events answers ≡ unran c 18
  unfolding run_of
  run_bad g = pick_false _ _ _ g

  after_bad : good_of c ≡ false → run_after halt c events answers ≡ answers
  unfolding run_after
  after_bad g = pick_false _ _ _ g

  -- by what the run gave: refused, all is kept
  module _ (least : ℕ) (words : List ℕ) (n : ℕ) (z : n ≡ 0 → ⊥) where
    pub left_kept : ◌≡◌ {A = Ran} (record { car = c; accepted = 0; refused = 0; seconds = 0; found = false; refusal = n }) (run_of halt mark c events answers)
        → ◌≡◌ {A = RunLeft}
        (record { refusal = n; words = words; answers = run_after halt c events answers; accepted = 0; refused = 0; seconds = 0; found = false })
        (ran_left halt mark least c words events answers)
    unfolding ran_left run_left words_left unran pick
    left_kept e = go (good_of c) refl
      where
        go : (g : Bool) → good_of c ≡ g
            → ◌≡◌ {A = RunLeft}
            (record { refusal = n; words = words; answers = run_after halt c events answers; accepted = 0; refused = 0; seconds = 0; found = false })
            (run_left halt mark least words (pick g (gives c) (refused 18)) events answers)
        go true h = rw (sym e, ne_eqb n 0 z)
        go false h = let r : n ≡ 18 = ap (λ (t : Ran). t.refusal) (e ∙ run_bad h) in rw (r, after_bad h)

  module _ (t : Ran) (e : t ≡ run_of halt mark c events answers) (z : t.refusal ≡ 0) where
    known : (run_of halt mark c events answers).refusal ≡ 18 → ⊥
    known h = omega (arith, z, ap (λ (x : Ran). x.refusal) e, h)

    pub ran_fits : Fits t.car
    ran_fits = rw e (run_fits known)

    -- it ran: the record of the car afterwards stands in the words' place where so many words were accepted
    pub left_ran : (least : ℕ) (words left : List ℕ) → left ≡ words_left least words (as_taught t)
        → ◌≡◌ {A = RunLeft}
        (record { refusal = 0; words = left; answers = run_after halt c events answers; accepted = t.accepted; refused = t.refused; seconds = t.seconds; found = t.found })
        (ran_left halt mark least c words events answers)
    unfolding ran_left run_left
    left_ran least words left h = rw (h, sym z, e, pick_true (good_of c) (gives c) (refused 18) (run_known known))

-- the words of a lesson that was not refused
module _ (least : ℕ) (words : List ℕ) (t : Taught) (z : t.refusal ≡ 0) where
  unrefused : words_left least words t ≡ pick (ltb t.accepted least) words (packed t.car)
  unfolding words_left
  unrefused = rw z

  pub left_written : least ≤ t.accepted → packed t.car ≡ words_left least words t
  left_written h = sym (unrefused ∙ pick_false _ _ _ (le-ltb t.accepted least h))

  pub left_unwritten : t.accepted < least → words ≡ words_left least words t
  left_unwritten h = sym (unrefused ∙ pick_true _ _ _ (lt-ltb t.accepted least h))

-- ---- the record that words are
-- words that are those of the car which they give: whether it is accepted goes by the car
read_marked : (ws : List ℕ) → same_words (packed (unpacked ws)) ws ≡ true
    → read_of ws ≡ pick (good_of (offered (unpacked ws))) (gives (offered (unpacked ws))) (refused 18)
unfolding read_of
read_marked ws e = rw e (go (good_of (offered (unpacked ws))))
  where
    go : (g : Bool) → pick (g && true) (gives (offered (unpacked ws))) (refused 18) ≡ pick g (gives (offered (unpacked ws))) (refused 18)
    go true = refl
    go false = refl

module _ (halt mark least : ℕ) (ws events answers : List ℕ) where
  pub left_marked : (c : Car) (s : Bool) → c ≡ unpacked ws → s ≡ same_words (packed c) ws → s ≡ true
      → ran_left halt mark least (offered c) ws events answers ≡ run_left halt mark least ws (read_of ws) events answers
  unfolding ran_left
  left_marked c s e h t = rw (e, read_marked ws (rw e at (sym h ∙ t)))

  pub left_unread : refused 18 ≡ read_of ws
      → ◌≡◌ {A = RunLeft} (record { refusal = 18; words = ws; answers = answers; accepted = 0; refused = 0; seconds = 0; found = false }) (run_left halt mark least ws (read_of ws) events answers)
  unfolding run_left
  left_unread e = rw (sym e)

-- ---- nothing stops it with the mark 0: it is a lesson
pub left_lesson : (mark least : ℕ) (words : List ℕ) (r : Answer Car) (events answers : List ℕ)
    → as_lesson (run_left 0 mark least words r events answers) ≡ lesson_left least words r events answers
unfolding run_left lesson_left
left_lesson mark least words (gives c) events answers =
    let e = run_whole c events mark answers in
    rw (after_whole c events answers) (ap (λ (t : Taught). record { refusal = t.refusal; words = words_left least words t; answers = answers_after c events answers; accepted = t.accepted; refused = t.refused }) e)
left_lesson mark least words (refused n) events answers = refl
