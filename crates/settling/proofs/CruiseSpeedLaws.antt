-- What a tick makes of v, over plain numbers, and how many ticks are enough until v = D.
-- Assumes nothing.
use Rattle.std.specs.Prelude.{◌≡◌, refl, ℕ, zero, suc, ◌+◌, ◌-◌, ◌*◌, ◌/◌, ◌≤◌, ◌<◌, min, max, leb, ltb}
use Rattle.std.proofs.Common.{◌∙◌, arith, lt-ltb, le-ltb, le-leb, ltb-true, ltb-false, leb-true, leb-false}
use Rattle.std.proofs.lemmas.Bool.{lt-leb}
use Rattle.std.proofs.Math.Nat.{div-eq_of_lt, add-div_right, zero-div}
use Rattle.kit.specs.Bounds.{speed_ceiling, desired_ceiling}
use Rattle.kit.specs.Pick.{pick, either}
use Rattle.motion.specs.Acceleration.{speeding, slowing, eased, towards}
use Rattle.motion.proofs.SpeedLaws.{moved_le, at_most_le}
use Rattle.motion.specs.Speed.{change, moved, at_most}
use Rattle.settling.specs.CruiseSpeed.{next_speed, speed_in, enough_for}

-- ---- a difference n of v and D, of which a tick takes at most 36 × t: t is 1 from below, 3 from above
abbrev taken : ℕ → ℕ → ℕ
taken t n = eased (10 * t) n * 36 / 10

-- so many ticks are enough for it: 3 at most for what is left below 36 × t
enough : ℕ → ℕ → ℕ
enough t n = min 3 ((n + 2) / 3) + n / (36 * t)

module _ (t n : ℕ) (some : 1 ≤ t) where
  taken_far : 36 * t ≤ n → taken t n ≡ 36 * t
  unfolding eased
  taken_far h = omega arith

  taken_near : n < 36 * t → n ≤ taken t n + 4
  unfolding eased
  taken_near h = omega arith

  taken_some : 3 ≤ taken t n
  unfolding eased
  taken_some = omega arith

  -- no difference is passed but 1 and 2
  taken_le : 3 ≤ n → taken t n ≤ n
  unfolding eased
  taken_le h = omega arith

  taken_small : n ≤ 2 → taken t n ≡ 3
  unfolding eased
  taken_small h = omega arith

-- m is what a tick leaves of n
falls_far : (t m n : ℕ) → 1 ≤ t → m + 36 * t ≡ n → enough t m + 1 ≤ enough t n
unfolding enough
falls_far t m n some h =
    let d : n / (36 * t) ≡ m / (36 * t) + 1 = rw (← h) (add-div_right m (omega arith)) in
    omega arith

falls_near : (t m n : ℕ) → n < 36 * t → m + 3 ≤ max 3 n → m ≤ 4 → 1 ≤ n → enough t m + 1 ≤ enough t n
unfolding enough
falls_near t m n h l k o = let z : m / (36 * t) ≡ 0 = div-eq_of_lt (omega arith) in omega arith

enough_falls : (t n : ℕ) → 1 ≤ t → 1 ≤ n → enough t (n - taken t n) + 1 ≤ enough t n
enough_falls t n some l =
    either (leb (36 * t) n)
    (λ h. let k = leb-true (36 * t) n h in falls_far t (n - taken t n) n some (omega (arith, k, taken_far t n some k)))
    (λ h.
    let k = leb-false (36 * t) n h in
    falls_near t (n - taken t n) n k (omega (arith, taken_some t n some)) (omega (arith, taken_near t n some k)) l)

enough_none : (t : ℕ) → enough t 0 ≡ 0
unfolding enough
enough_none t = rw (zero-div (36 * t))

-- ---- a rank that falls with each tick until v = D; from above one tick more, since it may pass D
rank : ℕ → ℕ → ℕ
rank v d = enough 1 (d - v) + min 1 (v - d) + enough 3 (v - d)

-- n is the difference
rank_below : (v d n : ℕ) → v + n ≡ d → rank v d ≡ enough 1 n
unfolding rank
rank_below v d n h =
    let p : d - v ≡ n = omega arith in
    let q : v - d ≡ 0 = omega arith in
    rw (p, q, enough_none 3) (omega arith)

rank_above : (v d n : ℕ) → d + n ≡ v → rank v d ≡ min 1 n + enough 3 n
unfolding rank
rank_above v d n h =
    let p : v - d ≡ n = omega arith in
    let q : d - v ≡ 0 = omega arith in
    rw (p, q, enough_none 1) (omega arith)

-- ---- a tick, from below, from above and at D
next_below : (v d : ℕ) → v < d → d ≤ speed_ceiling → next_speed v d ≡ min (v + taken 1 (d - v)) d
unfolding next_speed towards speeding at_most moved change pick
next_below v d h k = rw (lt-ltb v d h, le-leb v d (omega arith)) (omega arith)

eased_some : (n : ℕ) → 0 < eased 30 n
unfolding eased
eased_some n = omega arith

next_above : (v d : ℕ) → d < v → v ≤ speed_ceiling → next_speed v d ≡ v - taken 3 (v - d)
unfolding next_speed towards slowing at_most moved change pick
next_above v d h k =
    rw (le-ltb v d (omega arith), lt-ltb d v h, lt-leb v d h, lt-ltb 0 (eased 30 (v - d)) (eased_some (v - d))) (omega arith)

next_at : (d : ℕ) → d ≤ speed_ceiling → next_speed d d ≡ d
unfolding next_speed towards speeding at_most moved change pick
next_at d k = rw (le-ltb d d (omega arith), le-leb d d (omega arith)) (omega arith)

-- ---- the rank falls
below_falls : (v d : ℕ) → v < d → d ≤ speed_ceiling → rank (next_speed v d) d + 1 ≤ rank v d
below_falls v d h k =
    rw (next_below v d h k, rank_below v d (d - v) (omega arith), rank_below (min (v + taken 1 (d - v)) d) d (d - v - taken 1 (d - v)) (omega arith))
    (enough_falls 1 (d - v) (omega arith) (omega arith))

passed_falls : (n u d : ℕ) → 1 ≤ n → u ≤ d → d ≤ u + 2 → rank u d + 1 ≤ min 1 n + enough 3 n
unfolding enough
passed_falls n u d l a b = rw (rank_below u d (d - u) (omega arith)) (omega arith)

above_falls : (v d : ℕ) → d < v → v ≤ speed_ceiling → rank (next_speed v d) d + 1 ≤ rank v d
above_falls v d h k =
    rw (next_above v d h k, rank_above v d (v - d) (omega arith))
    (either (leb 3 (v - d))
    (λ t.
    let l = taken_le 3 (v - d) (omega arith) (leb-true 3 (v - d) t) in
    rw (rank_above (v - taken 3 (v - d)) d (v - d - taken 3 (v - d)) (omega arith))
    (omega (arith, enough_falls 3 (v - d) (omega arith) (omega arith))))
    (λ t.
    let f = leb-false 3 (v - d) t in
    let l = taken_small 3 (v - d) (omega arith) (omega arith) in
    passed_falls (v - d) (v - taken 3 (v - d)) d (omega arith) (omega arith) (omega arith)))

there_rank : (d : ℕ) → rank d d ≡ 0
there_rank d = rank_below d d 0 (omega arith) ∙ enough_none 1

rank_there : (v d : ℕ) → rank v d ≡ 0 → v ≡ d
unfolding rank enough
rank_there v d h = omega arith

rank_falls : (v d : ℕ) → v ≤ speed_ceiling → d ≤ speed_ceiling → rank (next_speed v d) d ≤ rank v d - 1
rank_falls v d h k =
    either (ltb v d)
    (λ t. omega (arith, below_falls v d (ltb-true v d t) k))
    (λ t. either (ltb d v)
    (λ s. omega (arith, above_falls v d (ltb-true d v s) h))
    (λ s. let e : v ≡ d = omega (arith, ltb-false v d t, ltb-false d v s) in rw (e, next_at d k, there_rank d) (omega arith)))

-- ---- n ticks
next_le : (v d : ℕ) → next_speed v d ≤ speed_ceiling
unfolding next_speed
next_le v d = at_most_le (leb v d) d _ speed_ceiling (moved_le v _)

closes : (n v d : ℕ) → v ≤ speed_ceiling → d ≤ speed_ceiling → rank (speed_in n v d) d ≤ rank v d - n
unfolding speed_in
closes zero v d h k = omega arith
closes (suc n) v d h k = omega (arith, closes n (next_speed v d) d (next_le v d) k, rank_falls v d h k)

-- ---- so many are enough for every v, and every D up to a ceiling: 58 up to 2000
pub enough_for_le : (top : ℕ) → top ≤ desired_ceiling → enough_for top ≤ 58
unfolding enough_for
enough_for_le top h = omega arith

rank_le : (v d top : ℕ) → v ≤ speed_ceiling → d ≤ top → rank v d ≤ enough_for top
unfolding enough_for enough
rank_le v d top h k =
    either (leb v d)
    (λ t. let l = leb-true v d t in rw (rank_below v d (d - v) (omega arith)) (omega arith))
    (λ t. let l = leb-false v d t in rw (rank_above v d (v - d) (omega arith)) (omega arith))

pub settled_in : (top n v d : ℕ) → v ≤ speed_ceiling → d ≤ top → top ≤ speed_ceiling → enough_for top ≤ n → speed_in n v d ≡ d
settled_in top n v d h k l e =
    rank_there (speed_in n v d) d (omega (arith, closes n v d h (omega arith), rank_le v d top h k))

-- v = D after m ticks, so after each later one
pub stays_in : (m n v d : ℕ) → v ≤ speed_ceiling → d ≤ speed_ceiling → m ≤ n → speed_in m v d ≡ d → speed_in n v d ≡ d
unfolding speed_in
stays_in zero n v d h k l e =
    let z : rank v d ≡ 0 = rw (e, there_rank d) refl in
    rank_there (speed_in n v d) d (omega (arith, closes n v d h k))
stays_in (suc m) zero v d h k l e = absurd (omega arith)
stays_in (suc m) (suc n) v d h k l e = stays_in m n (next_speed v d) d (next_le v d) k (omega arith) e

-- from v 4 the 57th tick ends just below D 1998
pub slowest_57 : speed_in 57 4 1998 ≡ 1997
unfolding speed_in next_speed towards eased speeding at_most moved change pick
slowest_57 = refl
