-- Cars that are alike now were alike by the rule before document 02, §9, by seven fields; and a pair that the rule before called alike drifts
-- apart within a second. The rule before stands in this file alone, for the comparison.
-- Assumes nothing.
use Rattle.std.specs.Prelude.{Bool, true, false, ◌&&◌, ◌≡◌, refl, ℕ, eqb}
use Rattle.std.specs.Bool.{beq}
use Rattle.kit.specs.Pick.{pick, and_l, and_r, and_both}
use Rattle.event.specs.Words.{permitted_gap}
use Rattle.desired.specs.Desired.{long_held, held}
use Rattle.car.specs.declared.Car.{Car}
use Rattle.car.specs.Car.{ceiling_of, with_levers}
use Rattle.car.specs.Good.{positions_of, numbers_of, ranges_of, times_of, rule_a, rule_b, rule_c, rule_d, rule_e, rule_f, obeys_of, good_at, good_of}
use Rattle.car.proofs.FiguresTable.{holding}
use Rattle.car.specs.Rules.{hold_desired, tick_desired, ticked}
use Rattle.alike.specs.Alike.{positions_alike, numbers_alike, same_ago, times_alike, alike_of}

-- "key, L, M, v, D, C and S agree"
unfoldable pub alike_before : Car → Car → Bool
alike_before a b =
    eqb a.key b.key
    && eqb a.levers.updown b.levers.updown
    && eqb a.levers.foreback b.levers.foreback
    && eqb a.speed b.speed
    && eqb a.cruise.desired b.cruise.desired
    && beq a.cruise.on b.cruise.on
    && beq a.limiter.on b.limiter.on

pub alike_as_before : (a b : Car) → alike_of a b ≡ true → alike_before a b ≡ true
unfolding alike_of alike_before positions_alike numbers_alike
alike_as_before a b h = search (and_l, and_r, and_both) depth 24 fits 4000

-- ---- "Two pupils were marked as alike and drifted apart a second later, because one had held the lever longer": with D 500, at the second 1, the lever
-- moved to up5 just now and a second ago. Behind a tick D is 500 and 510
abbrev pub held_since : ℕ → Car
held_since time = with_levers (holding 1) (record { updown = 1; foreback = 0; time = time; base = 500 })

abbrev pub just_now : Car
just_now = held_since 1

abbrev pub a_second_ago : Car
a_second_ago = held_since 0

pub both_good : (good_of just_now ≡ true) × (good_of a_second_ago ≡ true)
unfolding with_levers good_of good_at ranges_of positions_of numbers_of ceiling_of permitted_gap obeys_of times_of rule_a rule_b rule_c rule_d rule_e rule_f held pick
both_good = (refl, refl)

pub marked_alike : (alike_before just_now a_second_ago ≡ true) × (alike_of just_now a_second_ago ≡ false)
unfolding with_levers alike_before alike_of positions_alike numbers_alike times_alike same_ago
marked_alike = (refl, refl)

pub drifted : ((ticked just_now true).cruise.desired ≡ 500) × ((ticked a_second_ago true).cruise.desired ≡ 510)
unfolding with_levers ticked tick_desired hold_desired long_held ceiling_of pick
drifted = (refl, refl)
