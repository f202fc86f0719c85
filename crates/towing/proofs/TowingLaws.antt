-- Towing, D and B are at most 1000 and E is 0, after each word of every list of calls; and cruise settles within 50 ticks.
-- Assumes nothing.
use Rattle.std.specs.Prelude.{true, ◌≡◌, refl, List, ℕ, ◌≤◌, eqb, length}
use Rattle.std.proofs.Common.{arith}
use Rattle.std.proofs.lemmas.Bool.{eqb-false}
use borrow.Author.Tests.{eqb-true}
use Rattle.kit.specs.Pick.{pick_true, either}
use Rattle.car.specs.declared.Car.{Car}
use Rattle.car.specs.Car.{fresh_car, settings_of, Permitted, ceiling_of}
use Rattle.car.specs.Good.{good_of}
use Rattle.car.specs.Standing.{Good}
use Rattle.car.proofs.GoodLaws.{good}
use Rattle.trainer.specs.Calls.{Call, words}
use Rattle.trainer.proofs.Demand3Laws.{demand_3}
use Rattle.settling.specs.Settling.{LeftAlone, AcceptedTicks, Settles}
use Rattle.settling.specs.CruiseSpeed.{enough_for}
use Rattle.settling.proofs.SettlingLaws.{settles_over}
use Rattle.towing.specs.Towing.{Towed, TowedAlways}
use Rattle.history.proofs.SettingsLaws.{driven_settings}

ceiling_towing : (c : Car) → c.settings.towing ≡ true → ceiling_of c.settings ≡ 1000
unfolding ceiling_of
ceiling_towing c e = pick_true {A = ℕ} c.settings.towing 1000 2000 e

-- E is 0 or from 1200 to the ceiling
manual_towing : (c : Car) → Good c → c.settings.towing ≡ true → c.cruise.manual ≡ 0
manual_towing c g e =
    either (eqb c.cruise.manual 0) (λ t. eqb-true _ _ t)
    (λ t. let n = eqb-false c.cruise.manual 0 t in let l = g.ranges.manual_low (omega arith) in absurd (omega (arith, g.ranges.manual, ceiling_towing c e)))

pub towed : (c : Car) → Good c → c.settings.towing ≡ true → Towed c
towed c g e =
    let t = ceiling_towing c e in
    record { desired = omega (arith, t, g.ranges.desired); base = omega (arith, t, g.ranges.base); manual = manual_towing c g e }

fresh_towing : (mode signs : ℕ) → (fresh_car (settings_of mode signs 1)).settings.towing ≡ true
unfolding fresh_car settings_of
fresh_towing mode signs = refl

-- from the fresh car of every permitted settings with towing 1
pub towed_always : (mode signs : ℕ) → Permitted mode signs 1 → (ks : List Call) → TowedAlways (fresh_car (settings_of mode signs 1)) ks
towed_always mode signs p ks =
    let d = demand_3 mode signs 1 p ks in
    record {
      each = λ us vs e. towed _ (d.standing_each us vs e) (rw (driven_settings (fresh_car (settings_of mode signs 1)) us) (fresh_towing mode signs));
      last = towed _ d.standing (rw (d.car, driven_settings (fresh_car (settings_of mode signs 1)) (words (fresh_car (settings_of mode signs 1)) ks)) (fresh_towing mode signs));
    }

-- document 02, §10, at the ceiling 1000: 50 ticks are enough
pub towing_settles : (c : Car) (ws : List ℕ) → good_of c ≡ true → c.settings.towing ≡ true → LeftAlone c → AcceptedTicks c ws → 50 ≤ length ws
    → Settles 50 c ws
unfolding enough_for
towing_settles c ws g e a t h =
    settles_over c ws g a t 1000 50 (towed c (good c g) e).desired (omega arith) (omega arith) h
