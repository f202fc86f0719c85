-- Secure distance and warnings: document 01, "Rules of each event".
-- Assumes nothing.
use Rattle.std.specs.Prelude.{Bool, ◌&&◌, ◌||◌, ℕ, ◌*◌, ◌/◌, eqb, leb, ltb}
use Rattle.kit.specs.Pick.{pick}
use Rattle.car.specs.declared.Car.{Car}

-- the way in metres at speed v, in a time of tenths of a second
unfoldable pub metres : ℕ → ℕ → ℕ
metres tenths v = tenths * v / 360

-- "Secure distance N: W > 200 gives G×v÷360; W = v = 0 gives 2; otherwise W = 0, or W < Y, gives 25×v÷360; else 30×v÷360"
unfoldable pub secure_distance : Car → ℕ
secure_distance c =
    pick (ltb 200 c.radar.lead) (metres c.gap c.speed)
    (pick (eqb c.radar.lead 0 && eqb c.speed 0) 2
    (pick (eqb c.radar.lead 0 || ltb c.radar.lead c.radar.earlier) (metres 25 c.speed)
    (metres 30 c.speed)))

-- ""Ahead" means mode 2, C = 1, R in 1..254"
unfoldable pub ahead : Car → Bool
ahead c = eqb c.settings.mode 2 && c.cruise.on && leb 1 c.radar.range && leb c.radar.range 254

-- ahead, and R below a distance
unfoldable pub within : Car → ℕ → Bool
within c distance = ahead c && ltb c.radar.range distance

-- ""close" means ahead and R < N"
unfoldable pub close : Car → Bool
close c = within c (secure_distance c)

-- "Visual warning: ahead and R < 15×v÷360; acoustic: ahead and R < 8×v÷360"
unfoldable pub visual : Car → Bool
visual c = within c (metres 15 c.speed)

unfoldable pub acoustic : Car → Bool
acoustic c = within c (metres 8 c.speed)
