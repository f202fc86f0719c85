-- How the code works N out, by the time that it lasts, and how it compares R with a way in metres, without working that out. The laws below say that
-- both are the definitions'.
-- Assumes nothing.
use Rattle.std.specs.Prelude.{Bool, true, false, ◌&&◌, ◌||◌, ◌≡◌, refl, ℕ, ◌+◌, ◌*◌, ◌/◌, ◌≤◌, eqb, leb, ltb}
use Rattle.std.proofs.Common.{sym, ◌∙◌, arith, le-ltb, le-leb, ltb-true, ltb-false, eqb-true}
use Rattle.std.proofs.lemmas.Bool.{lt-leb}
use Rattle.kit.specs.Pick.{pick, pick_true, pick_false, pick_le, either, and_l}
use Rattle.event.proofs.WordLaws.{gap_le}
use Rattle.car.specs.declared.Car.{Car}
use Rattle.car.specs.Distance.{metres, secure_distance}
use Rattle.car.specs.Standing.{Ranges}

-- the largest product in N and in both warnings
abbrev pub largest_product : ℕ
largest_product = 150000

-- the tenths of a second that N lasts, where it is not 2
unfoldable pub following : Car → ℕ
following c =
    pick (ltb 200 c.radar.lead) c.gap
    (pick (eqb c.radar.lead 0 || ltb c.radar.lead c.radar.earlier) 25
    30)

pub following_le : (c : Car) → Ranges c → following c ≤ 30
unfolding following
following_le c r = pick_le _ _ _ _ (omega (arith, gap_le _ r.gap)) (pick_le _ _ _ _ (omega arith) (omega arith))

pub secure_standing : (c : Car) → (eqb c.radar.lead 0 && eqb c.speed 0) ≡ true → 2 ≡ secure_distance c
unfolding secure_distance
secure_standing c e =
    let w = eqb-true c.radar.lead 0 (and_l (eqb c.radar.lead 0) (eqb c.speed 0) e) in
    sym (pick_false _ _ _ (le-ltb 200 c.radar.lead (omega arith)) ∙ pick_true _ _ _ e)

pub secure_following : (c : Car) → (eqb c.radar.lead 0 && eqb c.speed 0) ≡ false → metres (following c) c.speed ≡ secure_distance c
unfolding secure_distance following pick
secure_following c e = rw e (go (ltb 200 c.radar.lead) (eqb c.radar.lead 0 || ltb c.radar.lead c.radar.earlier))
  where
    go : (t u : Bool) → metres (pick t c.gap (pick u 25 30)) c.speed ≡ pick t (metres c.gap c.speed) (pick false 2 (pick u (metres 25 c.speed) (metres 30 c.speed)))
    go true u = refl
    go false true = refl
    go false false = refl

-- below a quotient, by products alone
pub nearer_test : (range p : ℕ) → leb ((range + 1) * 360) p ≡ ltb range (p / 360)
nearer_test range p =
    either (ltb range (p / 360))
    (λ t. let h = ltb-true range (p / 360) t in le-leb ((range + 1) * 360) p (omega arith) ∙ sym t)
    (λ t. let h = ltb-false range (p / 360) t in lt-leb ((range + 1) * 360) p (omega arith) ∙ sym t)
