-- The request: the answer to every car and every wanted D, that it is the only one, and each of its refusals exactly in its own case.
-- Assumes nothing.
use Rattle.std.specs.Prelude.{Bool, true, false, Some, None, List, [], ◌∷◌, ◌≡◌, refl, ℕ, ◌≤◌, ◌<◌, length}
use Rattle.std.proofs.Common.{⊎_elim, sym, ap, ◌∙◌, ◌↔◌, arith}
use Rattle.kit.specs.Pick.{pick_true, pick_false, no}
use Rattle.car.specs.declared.Car.{Car}
use Rattle.car.specs.Car.{ceiling_of}
use Rattle.car.specs.Good.{good_of}
use Rattle.lever.specs.declared.Goal.{Goal}
use Rattle.lever.specs.Fewest.{Candidate, NotAfter, Fewest, Moves, listed, turned_away, ready_to_move, Answers, not_good, not_ready, no_list, list}
use Rattle.lever.specs.FewestShape.{Found, shortest_of, list_answer, fewest_of}
use Rattle.lever.proofs.LeverWordLaws.{ready_parts, Stands}
use Rattle.lever.proofs.FirstLaws.{First, Within, Sooner, shortest_first}

-- ---- the answer
-- how a car that is ready stands
abbrev goal_of : Car → ℕ → Goal
goal_of c wanted = record { ceiling = ceiling_of c.settings; wanted = wanted }

ready_stands : (c : Car) (wanted : ℕ) → ready_to_move c ≡ true → Stands (goal_of c wanted) 0 c.cruise.desired c
ready_stands c wanted h =
    let r = ready_parts c h in
    record { on = r.0; foreback = r.2; ceiling = refl; updown = r.1; desired = refl }

-- the first of the lists of at most six words
sooner_fewer : (ws vs : List ℕ) → Sooner ws vs → length ws ≤ length vs
sooner_fewer ws vs s = ⊎_elim (λ (e : length ws < length vs). omega arith) (λ p. omega (arith, p.0)) s

sooner_first : (ws vs : List ℕ) → length vs ≡ length ws → Sooner ws vs → NotAfter ws vs
sooner_first ws vs e s = ⊎_elim (λ (h : length ws < length vs). absurd (omega arith)) (λ p. p.1) s

first_fewest : (c : Car) (wanted : ℕ) (ws : List ℕ) → First Sooner (Within (goal_of c wanted) 0 7 c) (Some ws) → Fewest c wanted ws
first_fewest c wanted ws f = record {
  candidate = (omega (arith, f.0.1), f.0.2);
  fewest = λ vs v. sooner_fewer ws vs (f.1 vs (omega arith, omega (arith, v.0), v.1));
  first = λ vs v e. sooner_first ws vs e (f.1 vs (omega arith, omega (arith, v.0), v.1));
}

first_none : (c : Car) (wanted : ℕ) → First Sooner (Within (goal_of c wanted) 0 7 c) None → (ws : List ℕ) → Candidate c wanted ws → ⊥
first_none c wanted f ws v = f ws (omega arith, omega (arith, v.0), v.1)

-- what the search finds
abbrev search_of : Car → ℕ → Found
search_of c wanted = shortest_of (goal_of c wanted) c.cruise.desired 7 0

searched : (c : Car) (wanted : ℕ) → ready_to_move c ≡ true → First Sooner (Within (goal_of c wanted) 0 7 c) (search_of c wanted)
searched c wanted r = shortest_first (goal_of c wanted) c c.cruise.desired (ready_stands c wanted r) 7 0

-- the answer by its case
module _ (c : Car) (wanted : ℕ) where
  is_18 : good_of c ≡ false → fewest_of c wanted ≡ turned_away 18
  unfolding fewest_of
  is_18 g = pick_false _ _ _ g

  is_25 : good_of c ≡ true → ready_to_move c ≡ false → fewest_of c wanted ≡ turned_away 25
  unfolding fewest_of
  is_25 g r = pick_true _ _ _ g ∙ pick_false _ _ _ r

  is_searched : good_of c ≡ true → ready_to_move c ≡ true → fewest_of c wanted ≡ list_answer (search_of c wanted)
  unfolding fewest_of
  is_searched g r = pick_true _ _ _ g ∙ pick_true _ _ _ r

pub answers : (c : Car) (wanted : ℕ) → Answers c wanted (fewest_of c wanted)
unfolding list_answer
answers c wanted = by (good_of c) (ready_to_move c) refl refl
  where
    by : (a b : Bool) → good_of c ≡ a → ready_to_move c ≡ b → Answers c wanted (fewest_of c wanted)
    by false b g r = not_good g (is_18 c wanted g)
    by true false g r = not_ready g r (is_25 c wanted g r)
    by true true g r = found (search_of c wanted) (searched c wanted r) (is_searched c wanted g r)
      where
        found : (p : Found) → First Sooner (Within (goal_of c wanted) 0 7 c) p → fewest_of c wanted ≡ list_answer p → Answers c wanted (fewest_of c wanted)
        found (Some ws) f e = list g r ws (first_fewest c wanted ws f) e
        found None f e = no_list g r (first_none c wanted f) e

-- ---- it is the only one
-- of two lists of one length, neither of which comes after the other, the words are the same
same_list : (ws vs : List ℕ) → NotAfter ws vs → NotAfter vs ws → ws ≡ vs
unfolding NotAfter
same_list [] [] p q = refl
same_list [] (v ∷ vs) p q = absurd q
same_list (w ∷ ws) [] p q = absurd p
same_list (w ∷ ws) (v ∷ vs) p q =
    ⊎_elim (λ a. ⊎_elim (λ b. both_less a b) (λ b. one_less a b.0) q) (λ a. ⊎_elim (λ b. one_less b a.0) (λ b. same a.0 (same_list ws vs a.1 b.1)) q) p
  where
    both_less : w < v → v < w → w ∷ ws ≡ v ∷ vs
    both_less a b = absurd (omega arith)

    one_less : {x y : ℕ} → x < y → y ≡ x → w ∷ ws ≡ v ∷ vs
    one_less a b = absurd (omega arith)

    same : w ≡ v → ws ≡ vs → w ∷ ws ≡ v ∷ vs
    same a b = rw (a, b) refl

pub only_list : (c : Car) (wanted : ℕ) (ws vs : List ℕ) → Fewest c wanted ws → Fewest c wanted vs → ws ≡ vs
only_list c wanted ws vs f h =
    let a = f.fewest vs h.candidate in
    let b = h.fewest ws f.candidate in
    same_list ws vs (f.first vs h.candidate (omega arith)) (h.first ws f.candidate (omega arith))

pub only_answer : (c : Car) (wanted : ℕ) (m : Moves) → Answers c wanted m → m ≡ fewest_of c wanted
unfolding list_answer
only_answer c wanted m (not_good g e) = e ∙ sym (is_18 c wanted g)
only_answer c wanted m (not_ready g r e) = e ∙ sym (is_25 c wanted g r)
only_answer c wanted m (no_list g r f e) = e ∙ sym (is_searched c wanted g r ∙ none (search_of c wanted) (searched c wanted r))
  where
    none : (p : Found) → First Sooner (Within (goal_of c wanted) 0 7 c) p → list_answer p ≡ turned_away 26
    none (Some vs) h = absurd (f vs (first_fewest c wanted vs h).candidate)
    none None h = refl
only_answer c wanted m (list g r ws f e) = e ∙ sym (is_searched c wanted g r ∙ one (search_of c wanted) (searched c wanted r))
  where
    one : (p : Found) → First Sooner (Within (goal_of c wanted) 0 7 c) p → list_answer p ≡ listed ws
    one (Some vs) h = ap listed (only_list c wanted vs ws (first_fewest c wanted vs h) f)
    one None h = absurd (first_none c wanted h ws f.candidate)

-- ---- each number in its own case and in no other
-- a list that is the answer
pub record HasList (c : Car) (wanted : ℕ) : Type 0 where
  pub words : List ℕ
  pub fewest : Fewest c wanted words
  pub answer : fewest_of c wanted ≡ listed words

module _ (c : Car) (wanted : ℕ) where
  -- any claim, by the answer's case and its number
  by_case : {P : Type 0} → (good_of c ≡ false → (fewest_of c wanted).refusal ≡ 18 → P)
      → (good_of c ≡ true → ready_to_move c ≡ false → (fewest_of c wanted).refusal ≡ 25 → P)
      → (good_of c ≡ true → ready_to_move c ≡ true → ((ws : List ℕ) → Candidate c wanted ws → ⊥) → (fewest_of c wanted).refusal ≡ 26 → P)
      → (good_of c ≡ true → ready_to_move c ≡ true → HasList c wanted → (fewest_of c wanted).refusal ≡ 0 → P) → P
  unfolding turned_away listed
  by_case {P} k l m n = go (answers c wanted)
    where
      go : Answers c wanted (fewest_of c wanted) → P
      go (not_good g e) = k g (ap (λ (m : Moves). m.refusal) e)
      go (not_ready g r e) = l g r (ap (λ (m : Moves). m.refusal) e)
      go (no_list g r f e) = m g r f (ap (λ (m : Moves). m.refusal) e)
      go (list g r ws f e) = n g r (record { words = ws; fewest = f; answer = e }) (ap (λ (m : Moves). m.refusal) e)

  pub refused_18 : (fewest_of c wanted).refusal ≡ 18 ↔ good_of c ≡ false
  refused_18 = (
    λ h. by_case (λ g n. g) (λ g r n. absurd (omega (arith, h, n))) (λ g r f n. absurd (omega (arith, h, n))) (λ g r f n. absurd (omega (arith, h, n))),
    λ h. by_case (λ g n. n) (λ g r n. no (sym g ∙ h)) (λ g r f n. no (sym g ∙ h)) (λ g r f n. no (sym g ∙ h)),
  )

  pub refused_25 : (fewest_of c wanted).refusal ≡ 25 ↔ (good_of c ≡ true) × (ready_to_move c ≡ false)
  refused_25 = (
    λ h. by_case (λ g n. absurd (omega (arith, h, n))) (λ g r n. (g, r)) (λ g r f n. absurd (omega (arith, h, n))) (λ g r f n. absurd (omega (arith, h, n))),
    λ h. by_case (λ g n. no (sym h.0 ∙ g)) (λ g r n. n) (λ g r f n. no (sym r ∙ h.1)) (λ g r f n. no (sym r ∙ h.1)),
  )

  pub refused_26 : (fewest_of c wanted).refusal ≡ 26 ↔ (good_of c ≡ true) × (ready_to_move c ≡ true) × ((ws : List ℕ) → Candidate c wanted ws → ⊥)
  refused_26 = (
    λ h. by_case (λ g n. absurd (omega (arith, h, n))) (λ g r n. absurd (omega (arith, h, n))) (λ g r f n. (g, r, f)) (λ g r f n. absurd (omega (arith, h, n))),
    λ h. by_case (λ g n. no (sym h.0 ∙ g)) (λ g r n. no (sym h.1 ∙ r)) (λ g r f n. n) (λ g r f n. absurd (h.2 f.words f.fewest.candidate)),
  )

  pub refused_none : (fewest_of c wanted).refusal ≡ 0 ↔ (good_of c ≡ true) × (ready_to_move c ≡ true) × HasList c wanted
  refused_none = (
    λ h. by_case (λ g n. absurd (omega (arith, h, n))) (λ g r n. absurd (omega (arith, h, n))) (λ g r f n. absurd (omega (arith, h, n))) (λ g r f n. (g, r, f)),
    λ h. by_case (λ g n. no (sym h.0 ∙ g)) (λ g r n. no (sym h.1 ∙ r)) (λ g r f n. absurd (f h.2.words h.2.fewest.candidate)) (λ g r f n. n),
  )

-- no list has more words than there are places
pub count_six : (c : Car) (wanted : ℕ) → (fewest_of c wanted).count ≤ 6
unfolding turned_away listed
count_six c wanted = by (answers c wanted)
  where
    by : Answers c wanted (fewest_of c wanted) → (fewest_of c wanted).count ≤ 6
    by (not_good g e) = omega (arith, ap (λ (m : Moves). m.count) e)
    by (not_ready g r e) = omega (arith, ap (λ (m : Moves). m.count) e)
    by (no_list g r f e) = omega (arith, ap (λ (m : Moves). m.count) e)
    by (list g r ws f e) = omega (arith, ap (λ (m : Moves). m.count) e, f.candidate.0)
