-- "A pupil brakes, turns off, pushes forward and expects 80 again": document 02, §4, in the pupil's terms.
-- Assumes nothing.
use Rattle.std.specs.Prelude.{Bool, true, false, ◌≡◌, refl, List, [], ◌∷◌, ◌++◌, ℕ, eqb}
use Rattle.std.proofs.Common.{true≢false, sym, ◌∙◌, arith, eqb-true}
use Rattle.std.proofs.lemmas.Bool.{eqb-false}
use Rattle.kit.specs.Answer.{gives}
use Rattle.kit.specs.Pick.{pick_true}
use Rattle.event.specs.declared.Input.TheVariants.{ForeBack}
use Rattle.event.specs.declared.Event.TheVariants as event
use Rattle.event.specs.Words.{read_of}
use Rattle.car.specs.declared.Car.{Car}
use Rattle.car.specs.Drive.{input_next, event_next, reading_next, next_of, chosen, step_of, accepted}
use Rattle.car.specs.Good.{good_of}
use Rattle.car.proofs.GoodLaws.{good}
use Rattle.car.proofs.KeptLaws.{forward_takes_kept}
use Rattle.car.specs.Lesson.{driven}
use Rattle.car.specs.Rules.{fore_back_moved}
use Rattle.history.proofs.HistoryLaws.{driven_append}
use Rattle.history.specs.KeptDesired.{renewing, accepted_key, Never}
use Rattle.history.proofs.KeptDesiredLaws.{kept, key_kept}

-- an accepted forward gives the car of its rule
forward_next : (c : Car) (w : ℕ) → read_of w ≡ gives (event.Input (ForeBack 1)) → accepted c w ≡ true → (step_of c w).car ≡ fore_back_moved c 1
unfolding step_of next_of reading_next event_next input_next chosen
forward_next c w r a = rw (r, pick_true _ _ _ a)

-- cruise is on with the key on only
cruise_key : (c : Car) → good_of c ≡ true → c.cruise.on ≡ true → c.key ≡ 2
cruise_key c h e = go (eqb c.key 2) refl
  where
    go : (t : Bool) → eqb c.key 2 ≡ t → c.key ≡ 2
    go true t = eqb-true _ _ t
    go false t = absurd (true≢false (sym e ∙ ((good c h).off (eqb-false _ _ t)).cruise))

-- from any good car with cruise on: after words that neither renew D nor turn the key, an accepted forward with the brake released gives cruise on
-- with the first D, at any speed
pub roundabout : (c : Car) (ws : List ℕ) (w : ℕ) → good_of c ≡ true → c.cruise.on ≡ true → Never renewing c ws → Never accepted_key c ws
    → (driven c ws).pedals.brake ≡ 0 → read_of w ≡ gives (event.Input (ForeBack 1)) → accepted (driven c ws) w ≡ true
    → ((driven c (ws ++ w ∷ [])).cruise.on ≡ true) × ((driven c (ws ++ w ∷ [])).cruise.desired ≡ c.cruise.desired)
unfolding driven
roundabout c ws w h e n m b r a =
    let d = kept c ws n m in
    let k = key_kept c ws m ∙ cruise_key c h e in
    let q = forward_next (driven c ws) w r a in
    let t = forward_takes_kept (driven c ws) k b (omega (arith, d, ((good c h).cruise_on e).low)) in
    rw (driven_append c ws (w ∷ []), q, t) (refl, d)
