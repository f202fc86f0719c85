-- Document 01, "Figures proved together", with the figures that document 02, §1 and §3 give beside them: one table, checked by one fact.
-- Assumes nothing.
use Rattle.std.specs.Prelude.{Bool, true, false, ◌≡◌, refl, [], ◌∷◌, ℕ, ℤ, pos, neg_ℤ}
use Rattle.kit.specs.Pick.{pick}
use Rattle.desired.specs.Desired.{up5, up7, down5, hundred_below, down7, stepped, long_held, held}
use Rattle.motion.specs.Acceleration.{signed, speeding, slowing, brake_term, gas_term, braked, pulled, eased, towards, pushed, urged, cruising}
use Rattle.motion.specs.Speed.{change}
use Rattle.car.specs.declared.Car.{Car}
use Rattle.car.specs.Car.{ceiling_of}
use Rattle.car.specs.Distance.{metres, secure_distance, ahead, within, visual}
use Rattle.car.specs.Rules.{hold_desired, tick_desired, ticked}

-- a car with adaptive cruise on at v 500 and G 20, a reading R and a speed W ahead
abbrev pub behind : ℕ → ℕ → Car
behind range lead =
    record {
      settings = record { mode = 2; signs = false; towing = false };
      key = 2;
      levers = record { updown = 0; foreback = 0; time = 0; base = 0 };
      pedals = record { brake = 0; gas = 0 };
      limiter = record { button = false; on = false; limit = 0 };
      cruise = record { on = true; desired = 500; manual = 0 };
      radar = record { ready = true; range = range; lead = lead; earlier = 0; tested = 0 };
      gap = 20;
      speed = 500;
      now = 0;
    }

-- a car with cruise on at D 500, whose lever was moved to up5 at 0 and left B 500, at a time now
abbrev pub holding : ℕ → Car
holding now =
    record {
      settings = record { mode = 1; signs = false; towing = false };
      key = 2;
      levers = record { updown = 1; foreback = 0; time = 0; base = 500 };
      pedals = record { brake = 0; gas = 0 };
      limiter = record { button = false; on = false; limit = 0 };
      cruise = record { on = true; desired = 500; manual = 0 };
      radar = record { ready = true; range = 0; lead = 0; earlier = 0; tested = 0 };
      gap = 20;
      speed = 500;
      now = now;
    }

-- yes is 1, no is 0
abbrev pub answer : Bool → ℤ
answer b = pos (pick b 1 0)

pub figures_together :
    signed (change (slowing 1))  -- a×36÷10 for −1,
    ∷ signed (change (speeding 6))  -- 6,
    ∷ signed (change (slowing 30))  -- −30,
    ∷ signed (change (slowing 60))  -- full brake, −60,
    ∷ signed (change (speeding 30))  -- full gas, 30
    ∷ signed (braked 225 500)  -- brake at v 500: 225,
    ∷ signed (braked 4 500)  -- 4,
    ∷ signed (braked 3 500)  -- 3
    ∷ signed (pulled 225)  -- gas, cruise off: 225,
    ∷ signed (pulled 8)  -- 8,
    ∷ signed (pulled 7)  -- 7;
    ∷ signed (cruising 225 500 400)  -- cruise on, v 500, X 400: 225
    ∷ pos (stepped 2000 2 570)  -- up7 from 570
    ∷ pos (stepped 2000 4 570)  -- down7 from 570;
    ∷ pos (stepped 2000 4 500)  -- from 500;
    ∷ pos (stepped 2000 4 100)  -- from 100
    ∷ pos (stepped 2000 1 1995)  -- up5 from 1995
    ∷ pos (held 2000 1 500 1)  -- hold up5, B 500: h 1,
    ∷ pos (held 2000 1 500 2)  -- h 2,
    ∷ pos (ticked (holding 0) true).cruise.desired  -- and by the ticks at h 1
    ∷ pos (ticked (holding 1) true).cruise.desired  -- and h 2
    ∷ pos (held 2000 4 550 4)  -- hold down7, h 4: B 550,
    ∷ pos (held 2000 4 500 4)  -- B 500
    ∷ pos (secure_distance (behind 19 300))  -- N at G 20, v 500, W 300
    ∷ answer (visual (behind 19 300))  -- visual at v 500: R 19,
    ∷ answer (visual (behind 20 300))  -- 20
    ∷ []
    ≡ neg_ℤ (pos 3) ∷ pos 21 ∷ neg_ℤ (pos 108) ∷ neg_ℤ (pos 216) ∷ pos 108
    ∷ neg_ℤ (pos 60) ∷ neg_ℤ (pos 1) ∷ pos 0
    ∷ pos 30 ∷ pos 1 ∷ pos 0
    ∷ pos 30
    ∷ pos 600
    ∷ pos 500 ∷ pos 400 ∷ pos 10
    ∷ pos 2000
    ∷ pos 500 ∷ pos 510 ∷ pos 500 ∷ pos 510
    ∷ pos 300 ∷ pos 300
    ∷ pos 27
    ∷ pos 1 ∷ pos 0
    ∷ []
unfolding signed change speeding slowing brake_term braked gas_term pulled eased towards pushed urged cruising stepped up5 up7 down5 hundred_below down7 held long_held secure_distance metres visual within ahead ticked tick_desired hold_desired ceiling_of pick
figures_together = refl
