-- The figures that the dials show of a car.
-- Assumes nothing.
use Rattle.std.specs.Prelude.{Bool, false, Result, Ok, Err, ℕ}
use Rattle.kit.specs.Pick.{pick}
use Rattle.event.specs.declared.refusal.Refusal.{Refusal}
use Rattle.event.specs.Refusal.{refusal_number}
use Rattle.motion.specs.declared.Acceleration.{Acceleration}
use Rattle.car.specs.declared.Car.{Car}
use Rattle.car.specs.declared.figures.Figures as dials
use Rattle.car.specs.Acceleration.{acceleration_of}
use Rattle.car.specs.Distance.{secure_distance, visual, acoustic}
use Rattle.car.specs.Good.{good_of}

-- the refusal or 0, and the figures
pub record Figures : Type 0 where
  pub refusal : ℕ
  pub speed : ℕ
  pub desired : ℕ
  pub acceleration : Acceleration
  pub visual : Bool
  pub acoustic : Bool
  pub distance : ℕ

unfoldable pub shown : Car → Figures
shown c =
    record {
      refusal = 0;
      speed = c.speed;
      desired = c.cruise.desired;
      acceleration = acceleration_of c;
      visual = visual c;
      acoustic = acoustic c;
      distance = secure_distance c;
    }

-- 18, and zeros, for a car that is not good
unfoldable pub no_figures : Figures
no_figures =
    record {
      refusal = 18;
      speed = 0;
      desired = 0;
      acceleration = record { slows = false; size = 0 };
      visual = false;
      acoustic = false;
      distance = 0;
    }

unfoldable pub figures_of : Car → Figures
figures_of c = pick (good_of c) (shown c) no_figures

-- what a result says: the figures, or the refusal and zeros
abbrev pub figures_answer : Result dials.Figures Refusal → Figures
figures_answer (Ok f) =
    record {
      refusal = 0;
      speed = f.speed;
      desired = f.desired;
      acceleration = f.acceleration;
      visual = f.visual;
      acoustic = f.acoustic;
      distance = f.distance;
    }
figures_answer (Err r) =
    record {
      refusal = refusal_number r;
      speed = 0;
      desired = 0;
      acceleration = record { slows = false; size = 0 };
      visual = false;
      acoustic = false;
      distance = 0;
    }
