-- A lesson with the choice 30 runs on.
-- Assumes nothing.
use Rattle.std.specs.Prelude.{List, [], ◌∷◌, ◌++◌, ◌≡◌, refl, ℕ, ◌+◌, eqb}
use Rattle.std.proofs.Common.{sym, ◌∙◌, ap, arith, eqb-true}
use Rattle.kit.specs.Pick.{pick, pick_true, pick_false, either}
use Rattle.event.proofs.WordLaws.{gap_30_unread}
use Rattle.car.specs.declared.Car.{Car}
use Rattle.car.specs.Drive.{Driven, step_of}
use Rattle.car.specs.Lesson.{answer_of, driven, each_of, answers_of, accepted_of, refused_of}
use Rattle.car.proofs.DriveLaws.{step_unread}
use Rattle.longest_gap.specs.RunsOn.{choice_30, refused_24, RunsOn, without, other_answers, WithoutThem}

-- "that event is refused", on every car, before check 4
step_30 : (c : Car) → step_of c choice_30 ≡ refused_24 c
step_30 c = step_unread c choice_30 24 gap_30_unread

car_30 : (c : Car) (us vs : List ℕ) → driven c (us ++ choice_30 ∷ vs) ≡ driven c (us ++ vs)
unfolding driven
car_30 c [] vs = ap (λ (d : Driven). driven d.car vs) (step_30 c)
car_30 c (u ∷ us) vs = car_30 (step_of c u).car us vs

answers_append : (c : Car) (us vs : List ℕ) → answers_of c (us ++ vs) ≡ answers_of c us ++ answers_of (driven c us) vs
unfolding driven each_of
answers_append c [] vs = refl
answers_append c (u ∷ us) vs = ap (λ (x : List ℕ). answer_of (step_of c u) ∷ x) (answers_append (step_of c u).car us vs)

answers_30 : (c : Car) (vs : List ℕ) → answers_of c (choice_30 ∷ vs) ≡ answer_of (refused_24 c) ∷ answers_of c vs
unfolding each_of
answers_30 c vs = ap (λ (d : Driven). answer_of d ∷ answers_of d.car vs) (step_30 c)

accepted_30 : (c : Car) (us vs : List ℕ) → accepted_of c (us ++ choice_30 ∷ vs) ≡ accepted_of c (us ++ vs)
unfolding accepted_of pick
accepted_30 c [] vs = rw (step_30 c) (omega arith)
accepted_30 c (u ∷ us) vs = rw (accepted_30 (step_of c u).car us vs) refl

refused_30 : (c : Car) (us vs : List ℕ) → refused_of c (us ++ choice_30 ∷ vs) ≡ refused_of c (us ++ vs) + 1
unfolding refused_of pick
refused_30 c [] vs = rw (step_30 c) (omega arith)
refused_30 c (u ∷ us) vs = rw (refused_30 (step_of c u).car us vs) (omega arith)

pub runs_on : (c : Car) (us vs : List ℕ) → RunsOn c us vs
runs_on c us vs = record {
  refused = step_30 (driven c us);
  car = car_30 c us vs;
  answers = answers_append c us (choice_30 ∷ vs) ∙ ap (λ (x : List ℕ). answers_of c us ++ x) (answers_30 (driven c us) vs);
  others = answers_append c us vs;
  accepted = accepted_30 c us vs;
  refused_count = refused_30 c us vs;
}

-- ---- a list that may have many
pub without_them : (c : Car) (ws : List ℕ) → WithoutThem c ws
unfolding driven each_of without other_answers
without_them c [] = record { car = refl; answers = refl }
without_them c (w ∷ ws) = either (eqb w choice_30)
    (λ t.
    let s : step_of c w ≡ refused_24 c = ap (step_of c) (eqb-true w choice_30 t) ∙ step_30 c in
    let i = without_them c ws in
    let k : without (w ∷ ws) ≡ without ws = pick_true _ _ _ t in
    record {
      car = ap (λ (d : Driven). driven d.car ws) s ∙ i.car ∙ ap (driven c) (sym k);
      answers = pick_true _ _ _ t ∙ ap (λ (d : Driven). other_answers ws (answers_of d.car ws)) s ∙ i.answers ∙ ap (λ (x : List ℕ). answers_of c x) (sym k);
    })
    (λ t.
    let i = without_them (step_of c w).car ws in
    let k : without (w ∷ ws) ≡ w ∷ without ws = pick_false _ _ _ t in
    record {
      car = i.car ∙ ap (driven c) (sym k);
      answers = pick_false _ _ _ t ∙ ap (λ (x : List ℕ). answer_of (step_of c w) ∷ x) i.answers ∙ ap (λ (x : List ℕ). answers_of c x) (sym k);
    })
