-- What the answer is worth to who drives it: as a lesson its list is refused nothing and ends with the lever in neutral and the wanted D, and the rest of
-- the car stays; a D already reached; a D that no car can have; and lists worked out by hand.
-- Assumes nothing.
use Rattle.std.specs.Prelude.{true, ◌⊎◌, List, [], ◌∷◌, ◌≡◌, refl, ℕ, ◌≤◌, ◌<◌, length}
use Rattle.std.proofs.Common.{⊎_elim, sym, subst, ◌∙◌, arith, eq-eqb, le-ltb}
use Rattle.kit.specs.Pick.{and_right, not_of_true, pick_true, pick_false}
use Rattle.event.specs.Words.{body_of}
use Rattle.car.specs.declared.Car.{Car}
use Rattle.car.specs.declared.Levers.{Levers}
use Rattle.car.specs.Car.{ceiling_of, with_levers, with_cruise}
use Rattle.car.specs.Drive.{step_of}
use Rattle.car.specs.Good.{good_of}
use Rattle.car.specs.Lesson.{driven, accepted_of, refused_of, taught_of, lesson_of}
use Rattle.car.specs.Rules.{up_down_moved}
use Rattle.car.proofs.GoodLaws.{good}
use Rattle.car.proofs.LessonLaws.{driven_good, counts_all}
use Rattle.car.proofs.StepLaws.{step_refusal}
use Rattle.lever.specs.Fewest.{Reaches, Candidate, NotAfter, listed, turned_away, ready_to_move, no_list, list}
use Rattle.lever.specs.FewestShape.{fewest_of}
use Rattle.lever.specs.Untouched.{Untouched}
use Rattle.lever.proofs.LeverWordLaws.{accepted_step, ready_parts}
use Rattle.lever.proofs.FewestLaws.{only_answer}

-- ---- driven as a lesson
driven_ends : (c : Car) (wanted : ℕ) (ws : List ℕ) → Reaches c wanted ws → ((driven c ws).levers.updown ≡ 0) × ((driven c ws).cruise.desired ≡ wanted)
unfolding Reaches driven
driven_ends c wanted [] r = r
driven_ends c wanted (w ∷ ws) r = driven_ends (step_of c w).car wanted ws r.2

none_refused : (c : Car) (wanted : ℕ) (ws : List ℕ) → Reaches c wanted ws → refused_of c ws ≡ 0
unfolding Reaches refused_of
none_refused c wanted [] r = refl
none_refused c wanted (w ∷ ws) r =
    omega (arith, pick_true {A = ℕ} _ 0 1 (eq-eqb (step_of c w).refusal 0 (step_refusal c w ∙ r.1)), none_refused (step_of c w).car wanted ws r.2)

pub as_lesson : (c : Car) (wanted : ℕ) (ws buffer : List ℕ) → good_of c ≡ true → Reaches c wanted ws → length ws ≤ length buffer
    → (lesson_of c ws buffer ≡ record { car = driven c ws; accepted = length ws; refused = 0; refusal = 0 })
    × ((driven c ws).levers.updown ≡ 0)
    × ((driven c ws).cruise.desired ≡ wanted)
unfolding lesson_of taught_of
as_lesson c wanted ws buffer g r h =
    let e = driven_ends c wanted ws r in
    let n = none_refused c wanted ws r in
    let a : accepted_of c ws ≡ length ws = omega (arith, counts_all c ws, n) in
    (pick_true _ _ _ g ∙ pick_false _ _ _ (le-ltb (length buffer) (length ws) h) ∙ rw (a, n) refl, e.0, e.1)

-- ---- the rest of the car
moved_untouched : (c : Car) (x : ℕ) → Untouched c (up_down_moved c x)
unfolding up_down_moved with_cruise with_levers
moved_untouched c x =
    record { settings = refl; key = refl; foreback = refl; pedals = refl; limiter = refl; cruise = refl; radar = refl; gap = refl; speed = refl; now = refl }

untouched_then : (a b c : Car) → Untouched a b → Untouched b c → Untouched a c
untouched_then a b c u v = record {
  settings = v.settings ∙ u.settings;
  key = v.key ∙ u.key;
  foreback = v.foreback ∙ u.foreback;
  pedals = v.pedals ∙ u.pedals;
  limiter = v.limiter ∙ u.limiter;
  cruise = v.cruise ∙ u.cruise;
  radar = v.radar ∙ u.radar;
  gap = v.gap ∙ u.gap;
  speed = v.speed ∙ u.speed;
  now = v.now ∙ u.now;
}

pub rest_stays : (c : Car) (wanted : ℕ) (ws : List ℕ) → Reaches c wanted ws → Untouched c (driven c ws)
unfolding Reaches driven
rest_stays c wanted [] r =
    record { settings = refl; key = refl; foreback = refl; pedals = refl; limiter = refl; cruise = refl; radar = refl; gap = refl; speed = refl; now = refl }
rest_stays c wanted (w ∷ ws) r =
    untouched_then c (step_of c w).car _ (subst (Untouched c) (sym (accepted_step c w r.0 r.1)) (moved_untouched c (body_of w)))
    (rest_stays (step_of c w).car wanted ws r.2)

-- the levers too stand as before the moves: with L in neutral T and B are 0
pub levers_stay : (c : Car) (wanted : ℕ) (ws : List ℕ) → good_of c ≡ true → ready_to_move c ≡ true → Reaches c wanted ws → (driven c ws).levers ≡ c.levers
levers_stay c wanted ws g r s =
    let d : Car = driven c ws in
    let l = (driven_ends c wanted ws s).0 in
    let k = (ready_parts c r).1 in
    let a = (good d (driven_good c ws g)).lever_idle (and_right d.cruise.on _ (not_of_true _ (eq-eqb d.levers.updown 0 l))) in
    let b = (good c g).lever_idle (and_right c.cruise.on _ (not_of_true _ (eq-eqb c.levers.updown 0 k))) in
    same (l ∙ sym k) (rest_stays c wanted ws s).foreback (a.0 ∙ sym b.0) (a.1 ∙ sym b.1)
  where
    same : {u u' f f' t t' b b' : ℕ} → u ≡ u' → f ≡ f' → t ≡ t' → b ≡ b'
        → ◌≡◌ {A = Levers} (record { updown = u; foreback = f; time = t; base = b }) (record { updown = u'; foreback = f'; time = t'; base = b' })
    same a b c d = rw (a, b, c, d) refl

-- ---- "A D already reached gives the empty list"
pub already_reached : (c : Car) (wanted : ℕ) → good_of c ≡ true → ready_to_move c ≡ true → c.cruise.desired ≡ wanted → fewest_of c wanted ≡ listed []
unfolding Reaches NotAfter
already_reached c wanted g r e =
    sym (only_answer c wanted _ (list g r []
    (record { candidate = (omega arith, ((ready_parts c r).1, e)); fewest = λ vs v. omega arith; first = λ vs v l. tt })
    refl))

-- ---- a D that no car with cruise on can have: 0, or one above the ceiling
pub out_of_reach : (c : Car) (wanted : ℕ) → good_of c ≡ true → ready_to_move c ≡ true → (wanted ≡ 0) ⊎ (ceiling_of c.settings < wanted)
    → fewest_of c wanted ≡ turned_away 26
out_of_reach c wanted g r h = sym (only_answer c wanted _ (no_list g r none refl))
  where
    none : (ws : List ℕ) → Candidate c wanted ws → ⊥
    none ws v =
        let u = rest_stays c wanted ws v.1 in
        let e = (driven_ends c wanted ws v.1).1 in
        let on : (driven c ws).cruise.on ≡ true = u.cruise ∙ (ready_parts c r).0 in
        let k = (good (driven c ws) (driven_good c ws g)).cruise_on on in
        let low = k.low in
        let high = rw (u.settings) at k.high in
        ⊎_elim (λ (z : wanted ≡ 0). omega (arith, low, e)) (λ (z : ceiling_of c.settings < wanted). omega (arith, high, e)) h
