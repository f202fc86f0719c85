-- The acceleration a over plain numbers: document 01, "Rules of each event". A signed number is held as its sign and size; ÷ drops the
-- remainder towards zero, so it acts on the size.
-- Assumes nothing.
use Rattle.std.specs.Prelude.{Bool, false, ℕ, ◌+◌, ◌-◌, ◌*◌, ◌/◌, min, max, eqb, ltb, ℤ, pos, neg_ℤ}
use Rattle.kit.specs.Bounds.{pedal_ceiling, full_brake, full_gas}
use Rattle.kit.specs.Pick.{pick}
use Rattle.motion.specs.declared.Acceleration.{Acceleration}

-- the document's signed value
unfoldable pub signed : Acceleration → ℤ
signed a = pick a.slows (neg_ℤ (pos a.size)) (pos a.size)

-- n, and -n
unfoldable pub speeding : ℕ → Acceleration
speeding n = record { slows = false; size = n }

unfoldable pub slowing : ℕ → Acceleration
slowing n = record { slows = ltb 0 n; size = n }

-- "b×60÷225", "g×30÷225"
unfoldable pub brake_term : ℕ → ℕ
brake_term b = b * full_brake / pedal_ceiling

unfoldable pub gas_term : ℕ → ℕ
gas_term g = g * full_gas / pedal_ceiling

-- "b > 0: 0 if v = 0, else −(b×60÷225)"
unfoldable pub braked : ℕ → ℕ → Acceleration
braked b v = pick (eqb v 0) (speeding 0) (slowing (brake_term b))

-- "C = 0: min(30, g×30÷225)"; document 02, §8: "gas above 90 now goes first and a is then min(30, gas term)"
unfoldable pub pulled : ℕ → Acceleration
pulled g = speeding (min 30 (gas_term g))

-- "close: −30 if v > 0, else 0"
unfoldable pub backed_off : ℕ → Acceleration
backed_off v = pick (ltb 0 v) (slowing 30) (speeding 0)

-- "target X = min(D, W) if ahead, else D"
unfoldable pub target : Bool → ℕ → ℕ → ℕ
target ahead d w = pick ahead (min d w) d

-- "s = min(10, max(1, (X − v)×10÷36)) below X, 0 at X, −min(30, max(1, (v − X)×10÷36)) above X"
unfoldable pub eased : ℕ → ℕ → ℕ
eased most difference = min most (max 1 (difference * 10 / 36))

unfoldable pub towards : ℕ → ℕ → Acceleration
towards v x =
    pick (ltb v x) (speeding (eased 10 (x - v)))
    (pick (ltb x v) (slowing (eased 30 (v - x)))
    (speeding 0))

-- "min(30, max(g×30÷225, s))": the larger is the term where s is below 0
unfoldable pub pushed : ℕ → Acceleration → Acceleration
pushed term s = pick s.slows (speeding (min 30 term)) (speeding (min 30 (max term s.size)))

-- "then a = s if g = 0, else min(30, max(g×30÷225, s))"
unfoldable pub urged : ℕ → Acceleration → Acceleration
urged g s = pick (eqb g 0) s (pushed (gas_term g) s)

unfoldable pub cruising : ℕ → ℕ → ℕ → Acceleration
cruising g v x = urged g (towards v x)

-- "a + 60", as an answer word holds it
unfoldable pub acceleration_code : Acceleration → ℕ
acceleration_code a = pick a.slows (60 - a.size) (60 + a.size)
