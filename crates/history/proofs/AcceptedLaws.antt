-- Laws of the accepted words of a list, for any car, good or not: a refused word leaves the car.
-- Assumes nothing.
use Rattle.std.specs.Prelude.{true, false, ◌≡◌, refl, List, [], ◌∷◌, ◌++◌, ℕ, ◌≤◌, eqb, length}
use Rattle.std.proofs.Common.{ap, arith, eq-eqb, ne_eqb, eqb-true}
use Rattle.kit.specs.Pick.{pick, pick_true, pick_false}
use Rattle.car.specs.declared.Car.{Car}
use Rattle.car.specs.Drive.{Driven, check_of, step_of, accepted}
use Rattle.car.specs.Lesson.{driven, accepts, refuses, accepted_of, refused_of}
use Rattle.car.proofs.LessonLaws.{counts_all}
use Rattle.car.proofs.StepLaws.{Stepping, went, stayed, stepping, step_refusal}
use Rattle.history.specs.History.{accepted_words}

-- a word is accepted and counts as one accepted, or is refused, counts as one refused and leaves the car
pub by_word : {P : Type 0} (c : Car) (w : ℕ)
    → (accepted c w ≡ true → accepts (step_of c w) ≡ 1 → refuses (step_of c w) ≡ 0 → P)
    → (accepted c w ≡ false → accepts (step_of c w) ≡ 0 → refuses (step_of c w) ≡ 1 → (step_of c w).car ≡ c → P) → P
by_word {P} c w f g = by (stepping c w)
  where
    by : Stepping c w → P
    by (went e r i h z q) =
        let a = eq-eqb (check_of c w) 0 z in
        let n : eqb (step_of c w).refusal 0 ≡ true = rw (step_refusal c w) a in
        f a (pick_true _ _ _ n) (pick_true _ _ _ n)
    by (stayed z q) =
        let a = ne_eqb (check_of c w) 0 z in
        let n : eqb (step_of c w).refusal 0 ≡ false = rw (step_refusal c w) a in
        g a (pick_false _ _ _ n) (pick_false _ _ _ n) (ap (λ (d : Driven). d.car) q)

-- they end in the same car
pub accepted_same : (c : Car) (ws : List ℕ) → driven c (accepted_words c ws) ≡ driven c ws
unfolding driven accepted_words pick
accepted_same c [] = refl
accepted_same c (w ∷ ws) =
    by_word c w
    (λ t a r. rw t (accepted_same (step_of c w).car ws))
    (λ t a r k. rw (t, k) (accepted_same c ws))

-- none of them is refused
pub accepted_clean : (c : Car) (ws : List ℕ) → refused_of c (accepted_words c ws) ≡ 0
unfolding refused_of accepted_words pick
accepted_clean c [] = refl
accepted_clean c (w ∷ ws) =
    by_word c w
    (λ t a r. rw t (omega (arith, r, accepted_clean (step_of c w).car ws)))
    (λ t a r k. rw (t, k) (accepted_clean c ws))

-- where none is refused, each word is accepted in its place
pub none_refused : (c : Car) (us : List ℕ) (w : ℕ) (vs : List ℕ) → refused_of c (us ++ w ∷ vs) ≡ 0 → check_of (driven c us) w ≡ 0
unfolding driven refused_of
none_refused c [] w vs z = by_word c w (λ t a r. eqb-true _ _ t) (λ t a r k. absurd (omega arith))
none_refused c (u ∷ us) w vs z = none_refused (step_of c u).car us w vs (omega arith)

-- a list of which none is refused is its own accepted words
pub accepted_whole : (c : Car) (ws : List ℕ) → refused_of c ws ≡ 0 → accepted_words c ws ≡ ws
unfolding refused_of accepted_words pick
accepted_whole c [] z = refl
accepted_whole c (w ∷ ws) z =
    by_word c w
    (λ t a r. rw (t, accepted_whole (step_of c w).car ws (omega arith)))
    (λ t a r k. absurd (omega arith))

pub accepted_again : (c : Car) (ws : List ℕ) → accepted_words c (accepted_words c ws) ≡ accepted_words c ws
accepted_again c ws = accepted_whole c (accepted_words c ws) (accepted_clean c ws)

-- their number
pub accepted_count : (c : Car) (ws : List ℕ) → length (accepted_words c ws) ≡ accepted_of c ws
unfolding accepted_of accepted_words pick
accepted_count c [] = refl
accepted_count c (w ∷ ws) =
    let i = accepted_count (step_of c w).car ws in
    by_word c w
    (λ t a r. rw t (omega (arith, a, i)))
    (λ t a r k. rw t (omega (arith, a, i)))

pub accepted_few : (c : Car) (ws : List ℕ) → length (accepted_words c ws) ≤ length ws
accepted_few c ws = omega (arith, accepted_count c ws, counts_all c ws)

-- words after words
pub accepted_append : (c : Car) (us vs : List ℕ) → accepted_words c (us ++ vs) ≡ accepted_words c us ++ accepted_words (driven c us) vs
unfolding driven accepted_words pick
accepted_append c [] vs = refl
accepted_append c (w ∷ us) vs =
    let i = accepted_append (step_of c w).car us vs in
    by_word c w (λ t a r. rw (t, i)) (λ t a r k. rw (t, i))
