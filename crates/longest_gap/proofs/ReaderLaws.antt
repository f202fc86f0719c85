-- Acceptance is as it was, and the car is the same but for the gap 30.
-- Assumes nothing.
use Rattle.std.specs.Prelude.{Bool, true, false, ◌&&◌, ◌||◌, ◌≡◌, refl, List, ℕ, eqb}
use Rattle.std.proofs.Common.{sym, ◌∙◌, ap, eqb-true}
use Rattle.std.proofs.lemmas.Bool.{eqb-false}
use Rattle.kit.specs.Answer.{gives, refused}
use Rattle.kit.specs.Pick.{pick, pick_case, either, or_right}
use Rattle.event.specs.Words.{permitted_gap}
use Rattle.car.specs.declared.Car.{Car}
use Rattle.car.specs.declared.Settings.{Settings}
use Rattle.car.specs.Car.{ceiling_of, with_gap}
use Rattle.car.specs.Good.{positions_of, numbers_of, ranges_of, times_of, rule_a, rule_b, rule_c, rule_d, rule_e, rule_f, obeys_of, good_at, good_of}
use Rattle.record.specs.Layout.{packed, unpacked}
use Rattle.record.specs.Record.{same_words, offered, read_of}
use Rattle.record.proofs.RecordLaws.{offered_same, offered_30}
use Rattle.longest_gap.specs.ReaderBefore.{permitted_before, good_before, read_before, offering, ReadAsBefore}

-- the gap stands in no rule but its range
good_gap_25 : (top : ℕ) (c : Car) → good_at top (with_gap c 25) ≡ (positions_of c && numbers_of top c && true) && obeys_of top c
unfolding good_at ranges_of positions_of numbers_of permitted_gap obeys_of times_of rule_a rule_b rule_c rule_d rule_e rule_f with_gap
good_gap_25 top c = refl

good_gap_kept : (top : ℕ) (c : Car) → ((positions_of c && numbers_of top c && (eqb c.gap 20 || eqb c.gap 25)) && obeys_of top c) ≡ good_at top c
unfolding good_at ranges_of permitted_gap
good_gap_kept top c = refl

pub or_none : (b : Bool) → (b || false) ≡ b
or_none true = refl
or_none false = refl

-- so the test from before is the test of the car with 25 for 30
pub good_offered : (top : ℕ) (c : Car) → good_before top c ≡ good_at top (offered c)
unfolding good_before permitted_before
good_offered top c = either (eqb c.gap 30)
    (λ t. rw (t, or_right (eqb c.gap 20 || eqb c.gap 25) true refl, offered_30 c (eqb-true c.gap 30 t)) (sym (good_gap_25 top c)))
    (λ t. rw (t, or_none (eqb c.gap 20 || eqb c.gap 25), offered_same c (eqb-false c.gap 30 t)) (good_gap_kept top c))

pub offered_settings : (c : Car) → (offered c).settings ≡ c.settings
unfolding offered with_gap
offered_settings c = pick_case (λ (x : Car). x.settings ≡ c.settings) (eqb c.gap 30) _ _ (λ _. refl) (λ _. refl)

pub offering_pick : (t : Bool) (c : Car) → pick t (gives (offered c)) (refused 18) ≡ offering (pick t (gives c) (refused 18))
unfolding offering pick
offering_pick true c = refl
offering_pick false c = refl

good_before_is : (c : Car) → good_before (ceiling_of c.settings) c ≡ good_of (offered c)
unfolding good_of
good_before_is c = good_offered (ceiling_of c.settings) c ∙ ap (λ (s : Settings). good_at (ceiling_of s) (offered c)) (sym (offered_settings c))

pub read_as_before : (ws : List ℕ) → ReadAsBefore ws
unfolding read_of read_before
read_as_before ws = rw (good_before_is (unpacked ws)) (offering_pick (good_of (offered (unpacked ws)) && same_words (packed (unpacked ws)) ws) (unpacked ws))
