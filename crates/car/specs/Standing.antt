-- The standing rules as named facts: document 01, "Standing rules", and the ranges of "The car and a fresh one".
-- Assumes nothing.
use Rattle.std.specs.Prelude.{Bool, true, false, ◌≡◌, ℕ, ◌+◌, ◌-◌, ◌≤◌, ◌<◌}
use Rattle.kit.specs.Bounds.{pedal_ceiling, speed_ceiling, lesson_length, test_period}
use Rattle.event.specs.Words.{permitted_gap}
use Rattle.desired.specs.Desired.{held}
use Rattle.car.specs.declared.Car.{Car}
use Rattle.car.specs.Car.{ceiling_of}
use Rattle.car.specs.Good.{lever_held}

-- the fields' ranges; towing reads 1000 for 2000 (document 02, §11), and E, which is 0 or 1200 and more, is 0 then
pub record Ranges (c : Car) : Type 0 where
  pub mode_low : 1 ≤ c.settings.mode
  pub mode : c.settings.mode ≤ 2
  pub key : c.key ≤ 2
  pub updown : c.levers.updown ≤ 4
  pub foreback : c.levers.foreback ≤ 2
  pub brake : c.pedals.brake ≤ pedal_ceiling
  pub gas : c.pedals.gas ≤ pedal_ceiling
  pub speed : c.speed ≤ speed_ceiling
  pub limit : c.limiter.limit ≤ speed_ceiling
  pub desired : c.cruise.desired ≤ ceiling_of c.settings
  pub manual_low : 1 ≤ c.cruise.manual → 1200 ≤ c.cruise.manual
  pub manual : c.cruise.manual ≤ ceiling_of c.settings
  pub base : c.levers.base ≤ ceiling_of c.settings
  pub range : c.radar.range ≤ 255
  pub lead : c.radar.lead ≤ speed_ceiling
  pub earlier : c.radar.earlier ≤ speed_ceiling
  pub now : c.now ≤ lesson_length
  pub tested : c.radar.tested ≤ lesson_length
  pub gap : permitted_gap c.gap ≡ true

-- (a) what is 0 with the key not on; R = 255
pub record Off (c : Car) : Type 0 where
  pub brake : c.pedals.brake ≡ 0
  pub gas : c.pedals.gas ≡ 0
  pub speed : c.speed ≡ 0
  pub desired : c.cruise.desired ≡ 0
  pub manual : c.cruise.manual ≡ 0
  pub button : c.limiter.button ≡ false
  pub limiter : c.limiter.on ≡ false
  pub cruise : c.cruise.on ≡ false
  pub time : c.levers.time ≡ 0
  pub base : c.levers.base ≡ 0
  pub ready : c.radar.ready ≡ false
  pub lead : c.radar.lead ≡ 0
  pub earlier : c.radar.earlier ≡ 0
  pub tested : c.radar.tested ≡ 0
  pub range : c.radar.range ≡ 255

-- (c) with cruise on: b, M, D and its ceiling
pub record Cruising (b m d top : ℕ) : Type 0 where
  pub brake : b ≡ 0
  pub lever : m ≡ 2 → ⊥
  pub low : 1 ≤ d
  pub high : d ≤ top

-- (d) with the limiter on: H, g, v and Z
pub record Limiting (h : Bool) (g v z : ℕ) : Type 0 where
  pub button : h ≡ true
  pub gas : g ≤ 90
  pub speed : v ≤ z

-- a good car: one field for each sentence
pub record Good (c : Car) : Type 0 where
  pub ranges : Ranges c
  -- "T and B are 0 unless C = 1 and L is out"
  pub lever_idle : lever_held c ≡ false → (c.levers.time ≡ 0) × (c.levers.base ≡ 0)
  -- T ≤ now
  pub lever_time : c.levers.time ≤ c.now
  -- (a) "b or g is 0"
  pub one_pedal : 1 ≤ c.pedals.brake → c.pedals.gas ≡ 0
  -- (a) "Key not on: b, g, v, D, E, H, S, C, T, B, P, W, Y, Q are 0, R = 255"
  pub off : (c.key ≡ 2 → ⊥) → Off c
  -- (b) "L or M is neutral"
  pub one_lever : 1 ≤ c.levers.updown → c.levers.foreback ≡ 0
  -- (c) "C = 1: b = 0, M not backward, 1 ≤ D ≤ 2000", or 1000
  pub cruise_on : c.cruise.on ≡ true → Cruising c.pedals.brake c.levers.foreback c.cruise.desired (ceiling_of c.settings)
  -- (d) "S = 1: H = 1, g ≤ 90, v ≤ Z"
  pub limiter_on : c.limiter.on ≡ true → Limiting c.limiter.button c.pedals.gas c.speed c.limiter.limit
  -- (d) "H = 1: key on, M not backward"
  pub button_in : c.limiter.button ≡ true → (c.key ≡ 2) × (c.levers.foreback ≡ 2 → ⊥)
  -- (e) "R = 255 exactly when P = 0"
  pub not_ready : c.radar.ready ≡ false → c.radar.range ≡ 255
  pub ready : c.radar.ready ≡ true → c.radar.range ≡ 255 → ⊥
  -- (e) "Key on: Q ≤ now < Q + 600"
  pub tested : c.key ≡ 2 → (c.radar.tested ≤ c.now) × (c.now < c.radar.tested + test_period)
  -- (f) "C = 1, L out: .. D is the tick's formula, or B for h below 2", with h = now − T
  pub hold : lever_held c ≡ true → c.cruise.desired ≡ held (ceiling_of c.settings) c.levers.updown c.levers.base (c.now - c.levers.time)
