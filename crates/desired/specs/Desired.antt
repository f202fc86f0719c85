-- The desired speed D, and E, over plain numbers: document 01, "Rules of each event", L, the tick's hold, and a sign. `top` is the ceiling of D,
-- 2000 there; towing it is 1000 (document 02, §11).
-- Assumes nothing.
use Rattle.std.specs.Prelude.{ℕ, ◌+◌, ◌-◌, ◌*◌, ◌/◌, min, max, eqb, leb, ltb}
use Rattle.kit.specs.Pick.{pick}

-- "C = 1 gives up5 min(2000, D + 10); up7 min(2000, D÷100×100 + 100); down5 max(10, D − 10);
-- down7 the greatest multiple of 100 strictly below D, and at least 10"
unfoldable pub up5 : ℕ → ℕ → ℕ
up5 top d = min top (d + 10)

unfoldable pub up7 : ℕ → ℕ → ℕ
up7 top d = min top (d / 100 * 100 + 100)

unfoldable pub down5 : ℕ → ℕ
down5 d = max 10 (d - 10)

-- the greatest multiple of 100 strictly below D, for a D of 1 or more; 0 for 0
unfoldable pub hundred_below : ℕ → ℕ
hundred_below d = (d - 1) / 100 * 100

unfoldable pub down7 : ℕ → ℕ
down7 d = max 10 (hundred_below d)

-- D after a move to position 1, 2, 3 or 4
unfoldable pub stepped : ℕ → ℕ → ℕ → ℕ
stepped top position d =
    pick (eqb position 1) (up5 top d)
    (pick (eqb position 2) (up7 top d)
    (pick (eqb position 3) (down5 d)
    (down7 d)))

-- "with L out and h = now − T ≥ 2, up5 min(2000, B + (h−1)×10), up7 min(2000, B÷100×100 + (h÷2)×100),
-- down5 max(10, B − (h−1)×10), down7 max(10, B÷100×100 − (h÷2)×100)"
unfoldable pub long_held : ℕ → ℕ → ℕ → ℕ → ℕ
long_held top position base h =
    pick (eqb position 1) (min top (base + (h - 1) * 10))
    (pick (eqb position 2) (min top (base / 100 * 100 + h / 2 * 100))
    (pick (eqb position 3) (max 10 (base - (h - 1) * 10))
    (max 10 (base / 100 * 100 - h / 2 * 100))))

-- (f) "D is the tick's formula, or B for h below 2"
unfoldable pub held : ℕ → ℕ → ℕ → ℕ → ℕ
held top position base h = pick (ltb h 2) base (long_held top position base h)

-- "Each L event leaving D ≥ 1200 sets E = D"
unfoldable pub manual_after : ℕ → ℕ → ℕ
manual_after d e = pick (leb 1200 d) d e

-- "200..1300 gives D = s; above 1300 gives 1200 if D < 1200, else E if E > 0, else D"
unfoldable pub sign_gives : ℕ → ℕ → ℕ → ℕ
sign_gives s d e =
    pick (leb s 1300) s
    (pick (ltb d 1200) 1200
    (pick (ltb 0 e) e d))

-- "Below 200 nothing"; and "a sign's D is cut" to the ceiling (document 02, §11)
unfoldable pub sign_desired : ℕ → ℕ → ℕ → ℕ → ℕ
sign_desired top s d e = pick (ltb s 200) d (min top (sign_gives s d e))
