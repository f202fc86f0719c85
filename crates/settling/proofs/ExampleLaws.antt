-- 58 ticks are needed; and cars of which all this is said, so that it is not said of none.
-- Assumes nothing.
use Rattle.std.specs.Prelude.{Bool, true, false, ◌≡◌, refl, List, ℕ, ◌≤◌, length}
use Rattle.std.proofs.Common.{arith, inl, inr}
use Rattle.kit.specs.Pick.{pick}
use Rattle.event.specs.Words.{permitted_gap}
use Rattle.car.specs.declared.Car.{Car}
use Rattle.car.specs.Car.{ceiling_of}
use Rattle.car.specs.Good.{positions_of, numbers_of, ranges_of, times_of, rule_a, rule_b, rule_c, rule_d, rule_e, rule_f, obeys_of, good_at, good_of}
use Rattle.settling.specs.Settling.{Unhindered, LeftAlone, AcceptedTicks, after, AtDesired}
use Rattle.settling.proofs.CruiseSpeedLaws.{slowest_57}
use Rattle.settling.proofs.SettlingLaws.{course, stays}

-- from v 4 to D 1998 none of the first 57 ticks ends with v = D: the 57th ends with v 1997
pub slowest_needs_58 : (c : Car) (ws : List ℕ) → good_of c ≡ true → LeftAlone c → AcceptedTicks c ws → 57 ≤ length ws
    → c.speed ≡ 4 → c.cruise.desired ≡ 1998 → (n : ℕ) → n ≤ 57 → AtDesired (after c ws n) → ⊥
slowest_needs_58 c ws g a t l p q n h e =
    let k = course 57 c ws g a t l in
    let s = stays c ws g a t n 57 h l e in
    let v : (after c ws 57).speed ≡ 1997 = rw (← slowest_57, ← p, ← q) k.speed in
    absurd (omega (arith, s, v, k.desired))

-- such a car, of a mode, a range and a ready bit. Nothing is asked of the rest: signs, button, limit, E, the speeds ahead, gap, clock
abbrev pub slowest : ℕ → ℕ → Bool → Car
slowest mode range ready =
    record {
      settings = record { mode = mode; signs = true; towing = false };
      key = 2;
      levers = record { updown = 0; foreback = 0; time = 0; base = 0 };
      pedals = record { brake = 0; gas = 0 };
      limiter = record { button = true; on = false; limit = 700 };
      cruise = record { on = true; desired = 1998; manual = 1200 };
      radar = record { ready = ready; range = range; lead = 300; earlier = 500; tested = 5 };
      gap = 25;
      speed = 4;
      now = 40;
    }

alone : (mode range : ℕ) (ready : Bool) → Unhindered (slowest mode range ready) → LeftAlone (slowest mode range ready)
alone mode range ready u = record { key = refl; cruise = refl; gas = refl; updown = refl; foreback = refl; limiter = refl; unhindered = u }

abbrev pub Example : ℕ → ℕ → Bool → Type 0
Example mode range ready = (good_of (slowest mode range ready) ≡ true) × LeftAlone (slowest mode range ready)

-- "mode 1", with a car ahead; "R 0"; "or 255"
pub slowest_cars : Example 1 100 true × Example 2 0 true × Example 2 255 false
unfolding good_of good_at ranges_of positions_of numbers_of ceiling_of permitted_gap obeys_of times_of rule_a rule_b rule_c rule_d rule_e rule_f pick
slowest_cars = ((refl, alone 1 100 true (inl refl)), (refl, alone 2 0 true (inr (inl refl))), (refl, alone 2 255 false (inr (inr refl))))
