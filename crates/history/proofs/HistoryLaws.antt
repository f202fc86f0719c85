-- Laws about lists of event words: one lemma for one word, then list inductions over a good car.
-- Assumes nothing.
use Rattle.std.specs.Prelude.{Bool, true, false, ◌≡◌, refl, List, [], ◌∷◌, ◌++◌, ℕ, ◌+◌, ◌≤◌}
use Rattle.std.proofs.Common.{sym, ap, ◌∙◌, arith, eq-eqb, ne_eqb}
use Rattle.kit.specs.Pick.{pick, pick_false, and_left, no}
use Rattle.event.specs.declared.Event.{Event}
use Rattle.car.specs.declared.Car.{Car}
use Rattle.car.specs.declared.Levers.{Levers}
use Rattle.car.specs.Drive.{Driven, check_of, step_of, event_next, accepted, is_tick, accepted_tick}
use Rattle.car.proofs.DriveLaws.{accepted_as_lem}
use Rattle.car.specs.Good.{good_of, lever_held}
use Rattle.car.proofs.GoodLaws.{good}
use Rattle.car.specs.Lesson.{driven}
use Rattle.car.proofs.StepLaws.{Stepping, went, stayed, stepping, step_good}
use Rattle.history.specs.Neighbours.{is_lever, Neighbouring, Neighbours}
use Rattle.history.proofs.NeighbourLaws.{next_neighbours}
use Rattle.history.specs.History.{accepted_lever, ticks_of, levers_of, Since, since_word, since}

-- ---- one word
-- an accepted word is an event whose rule gives the next car; a refused one leaves the car
pub record Accepted (c : Car) (w : ℕ) (e : Event) : Type 0 where
  pub next : (step_of c w).car ≡ event_next c e
  pub neighbours : Neighbours c e (step_of c w).car
  pub tick : accepted_tick c w ≡ is_tick e
  pub lever : accepted_lever c w ≡ is_lever e

pub data Word (c : Car) (w : ℕ) : Type 0 where
  took : (e : Event) → accepted c w ≡ true → Accepted c w e → Word c w
  left : accepted c w ≡ false → (step_of c w).car ≡ c → Word c w

pub word_view : (c : Car) (w : ℕ) → good_of c ≡ true → Word c w
word_view c w g = by (stepping c w)
  where
    by : Stepping c w → Word c w
    by (went e r i h z q) =
        let a = eq-eqb (check_of c w) 0 z in
        let d = ap (λ (d : Driven). d.car) q in
        took e a (record {
          next = d;
          neighbours = rw d (next_neighbours c e (good c g) h);
          tick = accepted_as_lem is_tick c w e r a;
          lever = accepted_as_lem is_lever c w e r a;
        })
    by (stayed n q) = left (ne_eqb (check_of c w) 0 n) (ap (λ (d : Driven). d.car) q)

-- ---- words
pub driven_append : (c : Car) (us vs : List ℕ) → driven c (us ++ vs) ≡ driven (driven c us) vs
unfolding driven
driven_append c [] vs = refl
driven_append c (w ∷ us) vs = driven_append (step_of c w).car us vs

pub driven_at : (c : Car) (us : List ℕ) (w : ℕ) (vs : List ℕ) → driven c (us ++ w ∷ vs) ≡ driven (driven c (us ++ w ∷ [])) vs
unfolding driven
driven_at c us w vs = rw (driven_append c us (w ∷ vs), driven_append c us (w ∷ []))

-- the clock
ticked_now : (c : Car) (w : ℕ) (t : Bool) (e : Event) → is_tick e ≡ t → Accepted c w e → (step_of c w).car.now ≡ c.now + pick t 1 0
unfolding pick
ticked_now c w true e h a = a.neighbours.clock_tick h
ticked_now c w false e h a = a.neighbours.clock_other h ∙ omega arith

pub now_step : (c : Car) (w : ℕ) → good_of c ≡ true → (step_of c w).car.now ≡ c.now + pick (accepted_tick c w) 1 0
now_step c w g = by (word_view c w g)
  where
    by : Word c w → (step_of c w).car.now ≡ c.now + pick (accepted_tick c w) 1 0
    by (took e _ a) = rw a.tick (ticked_now c w (is_tick e) e refl a)
    by (left n q) = rw (q, pick_false {A = ℕ} (accepted_tick c w) 1 0 (and_left _ _ n)) (omega arith)

pub now_all : (c : Car) (ws : List ℕ) → good_of c ≡ true → (driven c ws).now ≡ c.now + ticks_of c ws
unfolding driven ticks_of
now_all c [] g = omega arith
now_all c (w ∷ ws) g = omega (arith, now_all (step_of c w).car ws (step_good c w g), now_step c w g)

-- neighbouring cars
same_neighbouring : (t : Bool) (c : Car) → t ≡ false → Neighbouring t c c
same_neighbouring t c n = record {
  up_down = λ a b d. omega arith;
  down_up = λ a b d. omega arith;
  forward_backward = λ a b. omega arith;
  backward_forward = λ a b. omega arith;
  speed_tick = λ h. no (sym h ∙ n);
  speed_other = λ _. refl;
}

pub neighbouring_step : (c : Car) (w : ℕ) → good_of c ≡ true → Neighbouring (accepted_tick c w) c (step_of c w).car
neighbouring_step c w g = by (word_view c w g)
  where
    by : Word c w → Neighbouring (accepted_tick c w) c (step_of c w).car
    by (took e _ a) =
        let n = a.neighbours in
        rw a.tick n.neighbouring
    by (left n q) = rw q (same_neighbouring _ c (and_left _ _ n))

-- ---- (f): T is ticks before now, and B is the D that was left, while the lever is held
abbrev pub Times : Car → Since → Type 0
Times c s = lever_held c ≡ true → (c.now ≡ c.levers.time + s.ticks) × (c.levers.base ≡ s.left)

-- the history over one accepted word, by whether it is a lever's word or a tick
times_took : (c : Car) (s : Since) (w : ℕ) (e : Event) → Accepted c w e → Times c s
    → (l t : Bool) → is_lever e ≡ l → is_tick e ≡ t
    → Times (step_of c w).car (pick l (record { ticks = 0; left = (step_of c w).car.cruise.desired }) (pick t (record { ticks = s.ticks + 1; left = s.left }) s))
unfolding pick
times_took c s w e a h true t l k = λ q. let n = a.neighbours.lever_out l q in (omega (arith, n.0), n.1)
times_took c s w e a h false true l k = λ q.
    let n = a.neighbours.lever_kept l q in
    let v = h n.0 in
    let u = ap (λ (x : Levers). x.time) n.1 in
    let b = ap (λ (x : Levers). x.base) n.1 in
    (omega (arith, a.neighbours.clock_tick k), b ∙ v.1)
times_took c s w e a h false false l k = λ q.
    let n = a.neighbours.lever_kept l q in
    let v = h n.0 in
    let u = ap (λ (x : Levers). x.time) n.1 in
    let b = ap (λ (x : Levers). x.base) n.1 in
    (omega (arith, a.neighbours.clock_other k), b ∙ v.1)

pub times_step : (c : Car) (s : Since) (w : ℕ) → good_of c ≡ true → Times c s → Times (step_of c w).car (since_word c s w)
unfolding since_word
times_step c s w g h = by (word_view c w g)
  where
    by : Word c w → Times (step_of c w).car (since_word c s w)
    by (took e _ a) = rw (a.lever, a.tick) (times_took c s w e a h (is_lever e) (is_tick e) refl refl)
    by (left n q) =
        rw (
          pick_false (accepted_lever c w) (record { ticks = 0; left = (step_of c w).car.cruise.desired }) (pick (accepted_tick c w) (record { ticks = s.ticks + 1; left = s.left }) s) (and_left _ _ n),
          pick_false (accepted_tick c w) (record { ticks = s.ticks + 1; left = s.left }) s (and_left _ _ n),
          q,
        ) h

pub times_all : (c : Car) (s : Since) (ws : List ℕ) → good_of c ≡ true → Times c s → Times (driven c ws) (since c s ws)
unfolding driven since
times_all c s [] g h = h
times_all c s (w ∷ ws) g h = times_all (step_of c w).car (since_word c s w) ws (step_good c w g) (times_step c s w g h)

-- with no accepted word of the lever on the way, the ticks add up and what was left stays
plain : (l t : Bool) (s : Since) (x : ℕ) → pick {A = ℕ} l 1 0 ≤ 0
    → ((pick {A = Since} l (record { ticks = 0; left = x }) (pick t (record { ticks = s.ticks + 1; left = s.left }) s)).ticks ≡ s.ticks + pick t 1 0)
    × ((pick {A = Since} l (record { ticks = 0; left = x }) (pick t (record { ticks = s.ticks + 1; left = s.left }) s)).left ≡ s.left)
unfolding pick
plain true t s x h = absurd (omega arith)
plain false true s x h = (refl, refl)
plain false false s x h = (omega arith, refl)

pub since_plain : (c : Car) (s : Since) (w : ℕ) → pick {A = ℕ} (accepted_lever c w) 1 0 ≤ 0
    → ((since_word c s w).ticks ≡ s.ticks + pick (accepted_tick c w) 1 0) × ((since_word c s w).left ≡ s.left)
unfolding since_word
since_plain c s w = plain (accepted_lever c w) (accepted_tick c w) s (step_of c w).car.cruise.desired

pub times_on : (c : Car) (s : Since) (ws : List ℕ) → good_of c ≡ true → levers_of c ws ≡ 0 → Times c s
    → Times (driven c ws) (record { ticks = s.ticks + ticks_of c ws; left = s.left })
unfolding driven ticks_of levers_of
times_on c s [] g z h = λ q. let v = h q in (omega (arith, v.0), v.1)
times_on c s (w ∷ ws) g z h = λ q.
    let v = times_on (step_of c w).car (since_word c s w) ws (step_good c w g) (omega arith) (times_step c s w g h) q in
    let e = since_plain c s w (omega arith) in
    (omega (arith, v.0, e.0), v.1 ∙ e.1)
