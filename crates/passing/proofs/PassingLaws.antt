-- The answers about a mark are what document 02, §5 says, of every car, list of words and mark; and they are put together from those of a lesson's parts.
-- Assumes nothing.
use Rattle.std.specs.Prelude.{Some, None, Bool, true, false, ◌&&◌, ℕ, suc, ◌+◌, ◌≤◌, ◌<◌, ltb, leb, length}
use Rattle.std.proofs.Math.Path.{◌≡◌, refl, ap}
use Rattle.std.proofs.Common.{sym, length-append}
use mathlib.Core.List.{List, [], ◌∷◌, ◌++◌}
use native.Mathlib.Omega.{arith}
use borrow.Author.Tests.{leb-true, le-leb, lt-leb}
use Rattle.kit.specs.Bounds.{speed_ceiling}
use Rattle.kit.specs.Pick.{pick, pick_false, pick_le, either, and_l, and_r, and_both, and_left, and_right, no}
use Rattle.car.specs.declared.Car.{Car}
use Rattle.car.specs.Drive.{step_of, accepted_tick}
use Rattle.car.specs.Good.{good_of}
use Rattle.car.proofs.GoodLaws.{good}
use Rattle.car.specs.Lesson.{driven, accepted_of}
use Rattle.car.proofs.LessonLaws.{driven_good}
use Rattle.car.specs.Mark.{passes, ends_above, seconds_of, searched, found}
use Rattle.car.proofs.MarkLaws.{passes_says, says_passes, passes_0}
use Rattle.car.proofs.StepLaws.{step_good}
use Rattle.history.proofs.AcceptedLaws.{by_word}
use Rattle.history.specs.History.{ticks_of}
use Rattle.passing.specs.Passing.{Passed, event_number, later, onward, passed_of, search_of, count_of, mark_of}
use Rattle.passing.specs.FirstPass.{NonePasses, PassesAt, Searched}

-- ---- none of a list passes
pub no_split : (us : List ℕ) (w : ℕ) (vs : List ℕ) → [] ≡ us ++ w ∷ vs → ⊥
no_split [] w vs e = let z : ◌≡◌ {A = ℕ} 0 1 = cc in omega arith
no_split (u ∷ us) w vs e = let z : ◌≡◌ {A = ℕ} 0 1 = cc in omega arith

module _ (mark : ℕ) (c : Car) where
  none_first : (w : ℕ) (ws : List ℕ) → NonePasses mark c (w ∷ ws) → passes mark c w ≡ false
  unfolding driven
  none_first w ws n = n [] w ws refl

  none_rest : (w : ℕ) (ws : List ℕ) → NonePasses mark c (w ∷ ws) → NonePasses mark (step_of c w).car ws
  unfolding driven
  none_rest w ws n = λ us v vs e. n (w ∷ us) v vs (rw e)

  none_cons : (w : ℕ) (ws : List ℕ) → passes mark c w ≡ false → NonePasses mark (step_of c w).car ws → NonePasses mark c (w ∷ ws)
  unfolding driven
  none_cons w ws t n [] v vs e = let q : w ≡ v = cc in rw (← q) t
  none_cons w ws t n (u ∷ us) v vs e =
      let q : w ≡ u = cc in
      let r : ws ≡ us ++ v ∷ vs = cc in
      rw (← q) (n us v vs r)

  none_nil : NonePasses mark c []
  none_nil us v vs e = absurd (no_split us v vs e)

module _ (mark : ℕ) where
  none_unfound : (c : Car) (ws : List ℕ) → NonePasses mark c ws → found mark c ws ≡ false
  unfolding found
  none_unfound c [] n = refl
  none_unfound c (w ∷ ws) n = rw (none_first mark c w ws n) (none_unfound (step_of c w).car ws (none_rest mark c w ws n))

  unfound_none : (c : Car) (ws : List ℕ) → found mark c ws ≡ false → NonePasses mark c ws
  unfolding found
  unfound_none c [] f = none_nil mark c
  unfound_none c (w ∷ ws) f =
      either (passes mark c w)
      (λ t. no (rw t at f))
      (λ t. none_cons mark c w ws t (unfound_none (step_of c w).car ws (rw t at f)))

-- ---- the words that the search drives
module _ (mark : ℕ) where
  unfound_never : (c : Car) (ws : List ℕ) → found mark c ws ≡ false → passed_of mark c ws ≡ None
  unfolding found passed_of later pick
  unfound_never c [] f = refl
  unfound_never c (w ∷ ws) f =
      either (passes mark c w)
      (λ t. no (rw t at f))
      (λ t. rw (t, unfound_never (step_of c w).car ws (rw t at f)))

  unfound_whole : (c : Car) (ws : List ℕ) → found mark c ws ≡ false → searched mark c ws ≡ ws
  unfolding found searched pick
  unfound_whole c [] f = refl
  unfound_whole c (w ∷ ws) f =
      either (passes mark c w)
      (λ t. no (rw t at f))
      (λ t. rw (t, unfound_whole (step_of c w).car ws (rw t at f)))

  found_at : (c : Car) (ws : List ℕ) → found mark c ws ≡ true → passed_of mark c ws ≡ Some (length (searched mark c ws))
  unfolding found searched passed_of later pick
  found_at c [] f = no (sym f)
  found_at c (w ∷ ws) f =
      either (passes mark c w)
      (λ t. rw t)
      (λ t. rw (t, found_at (step_of c w).car ws (rw t at f)) (ap Some (omega arith)))

  searched_rest : (c : Car) (ws : List ℕ) → (rest : List ℕ) × (ws ≡ searched mark c ws ++ rest)
  unfolding searched pick
  searched_rest c [] = ([], refl)
  searched_rest c (w ∷ ws) =
      let r = searched_rest (step_of c w).car ws in
      either (passes mark c w)
      (λ t. (ws, rw t))
      (λ t. (r.0, rw t (ap (λ (l : List ℕ). w ∷ l) r.1)))

  pub searched_prefix : (c : Car) (ws : List ℕ) → Searched mark c ws
  searched_prefix c ws = record {
    rest = (searched_rest c ws).0;
    split = (searched_rest c ws).1;
    stopped = found_at c ws;
    never = unfound_never c ws;
    whole = unfound_whole c ws;
  }

  -- of a lesson's two parts: where the first has a find the search stops in it, else it drives it all and goes on in the second
  pub searched_append : (c : Car) (us vs : List ℕ) → found mark c us ≡ false
      → (searched mark c (us ++ vs) ≡ us ++ searched mark (driven c us) vs) × (found mark c (us ++ vs) ≡ found mark (driven c us) vs)
  unfolding found searched driven pick
  searched_append c [] vs f = (refl, refl)
  searched_append c (w ∷ us) vs f =
      either (passes mark c w)
      (λ t. no (rw t at f))
      (λ t. let i = searched_append (step_of c w).car us vs (rw t at f) in (rw (t, i.0), rw (t, i.1)))

  pub searched_stops : (c : Car) (us vs : List ℕ) → found mark c us ≡ true
      → (searched mark c (us ++ vs) ≡ searched mark c us) × (found mark c (us ++ vs) ≡ true)
  unfolding found searched driven pick
  searched_stops c [] vs f = no (sym f)
  searched_stops c (w ∷ us) vs f =
      either (passes mark c w)
      (λ t. (rw t, rw t))
      (λ t. let i = searched_stops (step_of c w).car us vs (rw t at f) in (rw (t, i.0), rw (t, i.1)))

-- ---- the number
module _ (mark : ℕ) (c : Car) (ws : List ℕ) where
  pub never_exactly : passed_of mark c ws ≡ None → NonePasses mark c ws
  never_exactly e =
      either (found mark c ws)
      (λ f. let s = found_at mark c ws f in let z : ◌≡◌ {A = ℕ} 0 1 = cc in absurd (omega arith))
      (λ f. unfound_none mark c ws f)

  pub exactly_never : NonePasses mark c ws → passed_of mark c ws ≡ None
  exactly_never n = unfound_never mark c ws (none_unfound mark c ws n)

-- of a lesson's two parts
pub later_0 : (q : Passed) → later 0 q ≡ q
unfolding later
later_0 (Some n) = ap Some (omega arith)
later_0 None = refl

later_suc : (k : ℕ) (q : Passed) → later 1 (later k q) ≡ later (suc k) q
unfolding later
later_suc k (Some n) = ap Some (omega arith)
later_suc k None = refl

later_onward : (p : Passed) (k : ℕ) (q : Passed) → later 1 (onward p k q) ≡ onward (later 1 p) (suc k) q
unfolding later onward
later_onward (Some n) k q = refl
later_onward None k q = later_suc k q

pub passed_append : (mark : ℕ) (c : Car) (us vs : List ℕ)
    → passed_of mark c (us ++ vs) ≡ onward (passed_of mark c us) (length us) (passed_of mark (driven c us) vs)
unfolding passed_of driven onward pick
passed_append mark c [] vs = sym (later_0 _)
passed_append mark c (w ∷ us) vs =
    either (passes mark c w)
    (λ t. rw t)
    (λ t. rw (t, passed_append mark (step_of c w).car us vs) (later_onward _ _ _))

-- ---- the number, exactly
module _ (mark : ℕ) where
  later_at : (q : Passed) (n : ℕ) → later 1 q ≡ Some n → (m : ℕ) × (q ≡ Some m) × (n ≡ 1 + m)
  unfolding later
  later_at (Some m) n e = (m, refl, cc)
  later_at None n e = let z : ◌≡◌ {A = ℕ} 0 1 = cc in absurd (omega arith)

  here : (c : Car) (w : ℕ) (ws : List ℕ) (n : ℕ) → passes mark c w ≡ true → Some 1 ≡ Some n → PassesAt mark c (w ∷ ws) n
  unfolding driven
  here c w ws n t e = let s = passes_says mark c w t in let q : 1 ≡ n = cc in record {
    before = [];
    word = w;
    after = ws;
    split = refl;
    number = omega arith;
    tick = s.0;
    below = s.1;
    above = s.2;
    first = none_nil mark c;
  }

  further : (c : Car) (w : ℕ) (ws : List ℕ) (m n : ℕ) → passes mark c w ≡ false → PassesAt mark (step_of c w).car ws m → n ≡ 1 + m → PassesAt mark c (w ∷ ws) n
  unfolding driven
  further c w ws m n t p e = record {
    before = w ∷ p.before;
    word = p.word;
    after = p.after;
    split = ap (λ (l : List ℕ). w ∷ l) p.split;
    number = omega (arith, p.number);
    tick = p.tick;
    below = p.below;
    above = p.above;
    first = none_cons mark c w p.before t p.first;
  }

  pub at_exactly : (c : Car) (ws : List ℕ) (n : ℕ) → passed_of mark c ws ≡ Some n → PassesAt mark c ws n
  unfolding passed_of pick
  at_exactly c [] n e = let z : ◌≡◌ {A = ℕ} 0 1 = cc in absurd (omega arith)
  at_exactly c (w ∷ ws) n e =
      either (passes mark c w)
      (λ t. here c w ws n t (rw t at e))
      (λ t. let l = later_at (passed_of mark (step_of c w).car ws) n (rw t at e) in
      further c w ws l.0 n t (at_exactly (step_of c w).car ws l.0 l.1) l.2)

  pub exactly_at : (c : Car) (ws : List ℕ) (n : ℕ) → PassesAt mark c ws n → passed_of mark c ws ≡ Some n
  unfolding passed_of onward later pick
  exactly_at c ws n p =
      let t = says_passes mark (driven c p.before) p.word p.tick p.below p.above in
      rw (p.split, passed_append mark c p.before (p.word ∷ p.after), exactly_never mark c p.before p.first, t, p.number)

  pub event_number_lem : (c : Car) (ws : List ℕ) (n : ℕ) → passed_of mark c ws ≡ Some n → (1 ≤ n) × (n ≤ length ws)
  event_number_lem c ws n e =
      let p = at_exactly c ws n e in
      let l = length-append p.before (p.word ∷ p.after) in
      (omega (arith, p.number), omega (arith, p.number, ap length p.split))

  -- 0 stands for "never", and for nothing else
  pub never_number : (c : Car) (ws : List ℕ) → passed_of mark c ws ≡ None → event_number (passed_of mark c ws) ≡ 0
  unfolding event_number
  never_number c ws e = rw e

  pub number_never : (c : Car) (ws : List ℕ) → event_number (passed_of mark c ws) ≡ 0 → passed_of mark c ws ≡ None
  unfolding event_number
  number_never c ws = go (passed_of mark c ws) refl
    where
      go : (q : Passed) → passed_of mark c ws ≡ q → event_number q ≡ 0 → q ≡ None
      go (Some n) e z = absurd (omega (arith, (event_number_lem c ws n e).0))
      go None e z = refl

-- ---- a mark of 0 is never passed
pub never_0 : (c : Car) (ws : List ℕ) → passed_of 0 c ws ≡ None
never_0 c ws = exactly_never 0 c ws (λ us w vs e. passes_0 (driven c us) w)

-- ---- the seconds
pub seconds_append : (mark : ℕ) (c : Car) (us vs : List ℕ) → seconds_of mark c (us ++ vs) ≡ seconds_of mark c us + seconds_of mark (driven c us) vs
unfolding seconds_of driven
seconds_append mark c [] vs = omega arith
seconds_append mark c (w ∷ us) vs = omega (arith, seconds_append mark (step_of c w).car us vs)

module _ (mark : ℕ) (c : Car) (w : ℕ) where
  pub ends_says : ends_above mark c w ≡ true → (accepted_tick c w ≡ true) × (mark ≤ (step_of c w).car.speed)
  unfolding ends_above
  ends_says e = (and_l (accepted_tick c w) _ e, leb-true mark _ (and_r (accepted_tick c w) _ e))

  pub says_ends : accepted_tick c w ≡ true → mark ≤ (step_of c w).car.speed → ends_above mark c w ≡ true
  unfolding ends_above
  says_ends t a = and_both _ _ t (le-leb _ _ a)

-- of the accepted ticks, and so of the accepted words; a mark of 0 "counts each accepted tick"
fewer : (t u : Bool) → pick {A = ℕ} (t && u) 1 0 ≤ pick t 1 0
unfolding pick
fewer true true = omega arith
fewer true false = omega arith
fewer false u = omega arith

pub seconds_ticks : (mark : ℕ) (c : Car) (ws : List ℕ) → seconds_of mark c ws ≤ ticks_of c ws
unfolding seconds_of ticks_of ends_above
seconds_ticks mark c [] = omega arith
seconds_ticks mark c (w ∷ ws) =
    omega (arith, fewer (accepted_tick c w) (leb mark (step_of c w).car.speed), seconds_ticks mark (step_of c w).car ws)

pub ticks_accepted : (c : Car) (ws : List ℕ) → ticks_of c ws ≤ accepted_of c ws
unfolding ticks_of accepted_of
ticks_accepted c [] = omega arith
ticks_accepted c (w ∷ ws) =
    let i = ticks_accepted (step_of c w).car ws in
    by_word c w
    (λ t a r. omega (arith, pick_le (accepted_tick c w) 1 0 1 (omega arith) (omega arith)))
    (λ t a r k. omega (arith, pick_false {A = ℕ} (accepted_tick c w) 1 0 (and_left _ _ t)))

pub seconds_accepted : (mark : ℕ) (c : Car) (ws : List ℕ) → seconds_of mark c ws ≤ accepted_of c ws
seconds_accepted mark c ws = omega (arith, seconds_ticks mark c ws, ticks_accepted c ws)

ends_0 : (c : Car) (w : ℕ) → ends_above 0 c w ≡ accepted_tick c w
unfolding ends_above
ends_0 c w = also (accepted_tick c w) _ (le-leb 0 (step_of c w).car.speed (omega arith))
  where
    also : (t u : Bool) → u ≡ true → (t && u) ≡ t
    also true u e = e
    also false u e = refl

pub seconds_0 : (c : Car) (ws : List ℕ) → seconds_of 0 c ws ≡ ticks_of c ws
unfolding seconds_of ticks_of
seconds_0 c [] = refl
seconds_0 c (w ∷ ws) = rw (ends_0 c w, seconds_0 (step_of c w).car ws)

-- ---- a mark above the ceiling of v, from a good car
module _ (mark : ℕ) (high : speed_ceiling < mark) where
  under : (c : Car) (w : ℕ) → good_of c ≡ true → leb mark (step_of c w).car.speed ≡ false
  under c w g = lt-leb mark _ (omega (arith, (good _ (step_good c w g)).ranges.speed))

  pub never_above : (c : Car) (ws : List ℕ) → good_of c ≡ true → passed_of mark c ws ≡ None
  unfolding passes
  never_above c ws g = exactly_never mark c ws
      (λ us w vs e. and_right (accepted_tick (driven c us) w) _ (and_right (ltb (driven c us).speed mark) _ (under (driven c us) w (driven_good c us g))))

  pub seconds_above : (c : Car) (ws : List ℕ) → good_of c ≡ true → seconds_of mark c ws ≡ 0
  unfolding seconds_of ends_above
  seconds_above c [] g = refl
  seconds_above c (w ∷ ws) g =
      omega (
        arith,
        pick_false {A = ℕ} (ends_above mark c w) 1 0 (and_right (accepted_tick c w) _ (under c w g)),
        seconds_above (step_of c w).car ws (step_good c w g),
      )

-- ---- the calls, from a car that no accepted record gives
pub bad_car : (mark : ℕ) (c : Car) (ws : List ℕ) → good_of c ≡ false
    → (search_of mark c ws ≡ record { passed = None; refusal = 18 })
    × (count_of mark c ws ≡ record { car = c; seconds = 0; refusal = 18 })
    × (mark_of mark c ws ≡ record { car = c; passed = None; seconds = 0; refusal = 18 })
unfolding search_of count_of mark_of
bad_car mark c ws b = (pick_false _ _ _ b, pick_false _ _ _ b, pick_false _ _ _ b)
