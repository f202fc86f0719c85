-- Cruise settles: the promise of document 02, §10, and that D stays and v = D stays.
-- Assumes nothing.
use Rattle.std.specs.Prelude.{true, ◌≡◌, refl, List, [], ◌∷◌, ℕ, zero, suc, ◌≤◌, length}
use Rattle.std.proofs.Common.{sym, ◌∙◌, arith}
use Rattle.kit.specs.Bounds.{speed_ceiling}
use Rattle.car.specs.declared.Car.{Car}
use Rattle.car.specs.Car.{ceiling_of}
use Rattle.car.specs.Drive.{step_of}
use Rattle.car.specs.Good.{good_of}
use Rattle.car.proofs.GoodLaws.{good, ceiling_le}
use Rattle.car.specs.Lesson.{driven}
use Rattle.settling.specs.Settling.{LeftAlone, AcceptedTicks, after, AtDesired, Settles, Promise}
use Rattle.settling.specs.CruiseSpeed.{speed_in, enough_for}
use Rattle.settling.proofs.CruiseSpeedLaws.{enough_for_le, settled_in, stays_in}
use Rattle.settling.proofs.TickLaws.{Ticked, one_tick}

-- n accepted ticks, one after the other
pub course : (n : ℕ) (c : Car) (ws : List ℕ) → good_of c ≡ true → LeftAlone c → AcceptedTicks c ws → n ≤ length ws → Ticked n c (after c ws n)
unfolding driven AcceptedTicks speed_in
course zero c ws g a t h = record { good = g; alone = a; desired = refl; speed = refl }
course (suc n) c [] g a t h = absurd (omega arith)
course (suc n) c (w ∷ ws) g a t h =
    let k = one_tick c w g a t.0 in
    let i = course n (step_of c w).car ws k.good k.alone t.1 (omega arith) in
    record {
      good = i.good;
      alone = i.alone;
      desired = i.desired ∙ k.desired;
      speed = i.speed ∙ rw (k.desired, k.speed);
    }

module _ (c : Car) (ws : List ℕ) (g : good_of c ≡ true) (a : LeftAlone c) (t : AcceptedTicks c ws) where
  -- D is the D of the start
  pub desired_stays : (n : ℕ) → n ≤ length ws → (after c ws n).cruise.desired ≡ c.cruise.desired
  desired_stays n h = (course n c ws g a t h).desired

  -- v is D where it is so by the numbers alone
  reached : (n : ℕ) → n ≤ length ws → speed_in n c.speed c.cruise.desired ≡ c.cruise.desired → AtDesired (after c ws n)
  reached n h e = let k = course n c ws g a t h in k.speed ∙ e ∙ sym k.desired

  -- whenever v is D, it is so after each later tick
  pub stays : (m n : ℕ) → m ≤ n → n ≤ length ws → AtDesired (after c ws m) → AtDesired (after c ws n)
  stays m n l h e =
      let k = course m c ws g a t (omega arith) in
      let r = (good c g).ranges in
      reached n h (stays_in m n c.speed c.cruise.desired r.speed (omega (arith, r.desired, ceiling_le c.settings)) l (sym k.speed ∙ e ∙ k.desired))

  -- over the ceiling of D: so many ticks are enough for every D up to `top`
  pub settles_over : (top most : ℕ) → c.cruise.desired ≤ top → top ≤ speed_ceiling → enough_for top ≤ most → most ≤ length ws → Settles most c ws
  unfolding enough_for
  settles_over top most d l e h =
      let f : (n : ℕ) → most ≤ n → n ≤ length ws → AtDesired (after c ws n) =
      λ n i j. reached n j (settled_in top n c.speed c.cruise.desired (good c g).ranges.speed d l (omega arith)) in
      record { tick = most; first = omega arith; soon = omega arith; reached = f most (omega arith) h; later = f }

  -- 58 ticks are enough
  pub settles_within : (most : ℕ) → 58 ≤ most → most ≤ length ws → Settles most c ws
  settles_within most e h =
      let top = ceiling_le c.settings in
      settles_over (ceiling_of c.settings) most (good c g).ranges.desired (omega arith) (omega (arith, enough_for_le (ceiling_of c.settings) top)) h

pub promise : Promise
promise c ws g a clock t l = settles_within c ws g a t _ (omega arith) (omega arith)
