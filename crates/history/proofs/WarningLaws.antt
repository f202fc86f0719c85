-- (g) "Acoustic never without visual".
-- Assumes nothing.
use Rattle.std.specs.Prelude.{true, ◌≡◌, ℕ, ◌≤◌}
use Rattle.std.proofs.Common.{arith, ltb-true, lt-ltb}
use Rattle.kit.specs.Pick.{and_l, and_r, and_both}
use Rattle.car.specs.declared.Car.{Car}
use Rattle.car.specs.Distance.{metres, ahead, within, visual, acoustic}

-- a car within a distance is within every larger one
within_more : (c : Car) (m n : ℕ) → m ≤ n → within c m ≡ true → within c n ≡ true
unfolding within
within_more c m n h t =
    let r = ltb-true c.radar.range m (and_r (ahead c) _ t) in
    and_both _ _ (and_l (ahead c) _ t) (lt-ltb c.radar.range n (omega arith))

pub acoustic_visual : (c : Car) → acoustic c ≡ true → visual c ≡ true
unfolding visual acoustic metres
acoustic_visual c = within_more c _ _ (omega arith)
