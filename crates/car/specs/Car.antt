-- Document 01, "The car and a fresh one".
-- Assumes nothing.
use Rattle.std.specs.Prelude.{Bool, false, ◌&&◌, ◌||◌, not, ◌⊎◌, ◌≡◌, ℕ, eqb, ltb}
use Rattle.kit.specs.Answer.{Answer, gives, refused}
use Rattle.kit.specs.Bounds.{desired_ceiling, towing_ceiling}
use Rattle.kit.specs.Pick.{pick}
use Rattle.car.specs.declared.Settings.{Settings}
use Rattle.car.specs.declared.Levers.{Levers}
use Rattle.car.specs.declared.Pedals.{Pedals}
use Rattle.car.specs.declared.Limiter.{Limiter}
use Rattle.car.specs.declared.Cruise.{Cruise}
use Rattle.car.specs.declared.RangeRadar.{RangeRadar}
use Rattle.car.specs.declared.Car.{Car}

-- "A fresh car is made from its settings: G = 20, R = 255, the rest 0"
unfoldable pub fresh_car : Settings → Car
fresh_car s =
    record {
      settings = s;
      key = 0;
      levers = record { updown = 0; foreback = 0; time = 0; base = 0 };
      pedals = record { brake = 0; gas = 0 };
      limiter = record { button = false; on = false; limit = 0 };
      cruise = record { on = false; desired = 0; manual = 0 };
      radar = record { ready = false; range = 255; lead = 0; earlier = 0; tested = 0 };
      gap = 20;
      speed = 0;
      now = 0;
    }

-- "Settings: mode 1 (normal cruise) or 2 (adaptive); signs 0 or 1"; and towing, 0 or 1 (document 02, §11)
pub record Permitted (mode signs towing : ℕ) : Type 0 where
  pub modes : (mode ≡ 1) ⊎ (mode ≡ 2)
  pub sign_flag : (signs ≡ 0) ⊎ (signs ≡ 1)
  pub towing_flag : (towing ≡ 0) ⊎ (towing ≡ 1)

unfoldable pub settings_of : ℕ → ℕ → ℕ → Settings
settings_of mode signs towing = record { mode = mode; signs = eqb signs 1; towing = eqb towing 1 }

-- 17: settings outside their values (no car)
unfoldable pub check17 : ℕ → ℕ → ℕ → Bool
check17 mode signs towing = not (eqb mode 1) && not (eqb mode 2) || ltb 1 signs || ltb 1 towing

unfoldable pub fresh_of : ℕ → ℕ → ℕ → Answer Car
fresh_of mode signs towing = pick (check17 mode signs towing) (refused 17) (gives (fresh_car (settings_of mode signs towing)))

-- the ceiling of D and B: "With it the ceiling 2000 on D and B is 1000" (document 02, §11)
unfoldable pub ceiling_of : Settings → ℕ
ceiling_of s = pick s.towing towing_ceiling desired_ceiling

-- ---- the same car with one part changed
unfoldable pub with_levers : Car → Levers → Car
with_levers c x = record { settings = c.settings; key = c.key; levers = x; pedals = c.pedals; limiter = c.limiter; cruise = c.cruise; radar = c.radar; gap = c.gap; speed = c.speed; now = c.now }

unfoldable pub with_pedals : Car → Pedals → Car
with_pedals c x = record { settings = c.settings; key = c.key; levers = c.levers; pedals = x; limiter = c.limiter; cruise = c.cruise; radar = c.radar; gap = c.gap; speed = c.speed; now = c.now }

unfoldable pub with_limiter : Car → Limiter → Car
with_limiter c x = record { settings = c.settings; key = c.key; levers = c.levers; pedals = c.pedals; limiter = x; cruise = c.cruise; radar = c.radar; gap = c.gap; speed = c.speed; now = c.now }

unfoldable pub with_cruise : Car → Cruise → Car
with_cruise c x = record { settings = c.settings; key = c.key; levers = c.levers; pedals = c.pedals; limiter = c.limiter; cruise = x; radar = c.radar; gap = c.gap; speed = c.speed; now = c.now }

unfoldable pub with_radar : Car → RangeRadar → Car
with_radar c x = record { settings = c.settings; key = c.key; levers = c.levers; pedals = c.pedals; limiter = c.limiter; cruise = c.cruise; radar = x; gap = c.gap; speed = c.speed; now = c.now }

unfoldable pub with_gap : Car → ℕ → Car
with_gap c x = record { settings = c.settings; key = c.key; levers = c.levers; pedals = c.pedals; limiter = c.limiter; cruise = c.cruise; radar = c.radar; gap = x; speed = c.speed; now = c.now }
