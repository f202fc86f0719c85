-- The checks 4 to 16 over plain numbers: document 01, "From file, pupil, radar, clock and caller". Each definition gives the first number
-- that holds, 0 for none.
-- Assumes nothing.
use Rattle.std.specs.Prelude.{Bool, ◌&&◌, ◌||◌, not, ℕ, eqb, leb, ltb}
use Rattle.std.specs.Bool.{beq}
use Rattle.kit.specs.Bounds.{lesson_length}
use Rattle.kit.specs.Pick.{pick}

-- 4 "key not on (kinds 4 to 9)", before what the kind's own checks give
unfoldable pub key_on : ℕ → ℕ → ℕ
key_on key refusal = pick (not (eqb key 2)) 4 refusal

-- 7 "key from 0 to 2 or 2 to 0"
unfoldable pub key_skips : ℕ → ℕ → Bool
key_skips from to = eqb from 0 && eqb to 2 || eqb from 2 && eqb to 0

-- 5 "value already held", 6 "key moved while v > 0", 7, 15 "a key word with ready 1 and a key other than 2"
unfoldable pub key_check : ℕ → ℕ → ℕ → Bool → ℕ
key_check key v x ready =
    pick (eqb x key) 5
    (pick (ltb 0 v) 6
    (pick (key_skips key x) 7
    (pick (ready && not (eqb x 2)) 15
    0)))

-- 7 "L from up to down or back": 1 and 2 are up, 3 and 4 down
unfoldable pub up_down_skips : ℕ → ℕ → Bool
up_down_skips from to = leb 1 from && leb from 2 && leb 3 to || leb 3 from && leb 1 to && leb to 2

-- 5, 7, 8 "L moved while M is out of neutral"
unfoldable pub up_down_check : ℕ → ℕ → ℕ → ℕ
up_down_check l m x =
    pick (eqb x l) 5
    (pick (up_down_skips l x) 7
    (pick (not (eqb m 0)) 8
    0))

-- 7 "M between forward and backward"
unfoldable pub fore_back_skips : ℕ → ℕ → Bool
fore_back_skips from to = eqb from 1 && eqb to 2 || eqb from 2 && eqb to 1

-- 5, 7, 8 "or M while L is"
unfoldable pub fore_back_check : ℕ → ℕ → ℕ → ℕ
fore_back_check m l x =
    pick (eqb x m) 5
    (pick (fore_back_skips m x) 7
    (pick (not (eqb l 0)) 8
    0))

-- 5, 9 "brake while g > 0, gas while b > 0": a pedal's value, by what that pedal holds and what the other one does
unfoldable pub pedal_check : ℕ → ℕ → ℕ → ℕ
pedal_check held other x = pick (eqb x held) 5 (pick (ltb 0 other) 9 0)

-- "Button: 10 H = 1; 11 M = 2; 12 g > 90; 13 v above the limit given"
unfoldable pub button_check : Bool → ℕ → ℕ → ℕ → ℕ → ℕ
button_check h m g v limit =
    pick h 10
    (pick (eqb m 2) 11
    (pick (ltb 90 g) 12
    (pick (ltb limit v) 13
    0)))

-- 14 "a reading while P = 0"
unfoldable pub radar_check : Bool → ℕ
radar_check p = pick (not p) 14 0

-- 15 "a tick whose ready differs from P, unless key is on and now + 1 = Q + 600" (`due`), 16 "a tick at 86,400"
unfoldable pub tick_check : Bool → Bool → ℕ → Bool → ℕ
tick_check p due now ready =
    pick (not (beq ready p) && not due) 15
    (pick (leb lesson_length now) 16
    0)
