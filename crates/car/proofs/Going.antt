-- What the loop of a lesson keeps: what is left gives the whole; and that one turn keeps it.
-- Assumes nothing.
use mathlib.Core.Path.{◌≡◌, refl, sym, ap, ◌∙◌}
use mathlib.Core.Bool.{Bool, true, false, ◌&&◌, ◌||◌, not, true≢false}
use mathlib.Core.List.{List, [], ◌∷◌, ◌++◌, append_assoc}
use Prim.Native.Nat.{ℕ, ◌+◌, ◌-◌, ◌%◌, ◌^◌, ◌≤◌, ◌<◌}
use native.Mathlib.Numerals.{add-one}
use native.Mathlib.Omega.{arith}
use borrow.Author.Tests.{eq-eqb, ne_eqb, eqb-true, ltb-true, lt-leb}
use lib.Dec.{eqb, ltb, leb}
use lib.ListN.{length, take, drop, get_or, set, length-drop, take-append-drop, drop_of_length-le}
use lib.Seq.{drop-cons, take-suc-set, drop-set-lt, take_all}
use Rattle.kit.specs.Pick.{pick, pick_true, pick_false, pick_le}
use Rattle.motion.specs.Acceleration.{acceleration_code}
use Rattle.car.specs.declared.Car.{Car}
use Rattle.car.specs.Drive.{Driven, step_of, accepted_tick}
use Rattle.car.specs.Mark.{Ran, passes, ends_above, seconds_of, searched, found, ran_of}
use Rattle.car.specs.Acceleration.{acceleration_of}
use Rattle.event.specs.declared.refusal.Refusal.{Refusal}
use Rattle.event.specs.Refusal.{refusal_number}
use Rattle.event.proofs.RefusalLaws.{number_pos}
use Rattle.event.specs.Words.{kind_of}
use Rattle.car.specs.declared.tick.Moved.{Moved}
use Rattle.car.specs.Rules.{test_due, tick_desired, tick_speed, ticked}
use Rattle.car.specs.Standing.{Good}
use Rattle.car.proofs.Driving.{step_keeps, tick_kept}
use Rattle.car.specs.Lesson.{answer_of, speed_of, refuses, driven, accepted_of, refused_of}
use Rattle.car.proofs.LessonLaws.{refusal_le, counts_all}
use Rattle.car.specs.LessonShape.{accepted_answer, tick_refusal, second_passed, over_of}
use Rattle.car.proofs.LessonShapeLaws.{same_acceleration, same_answer, answer_adds, over_none}
use Rattle.car.proofs.MarkLaws.{crosses, searched_few, refused_no_tick, tick_accepted, counted}
use Rattle.car.proofs.DriveLaws.{tick_taken}

-- The words that are driven are `searched halt c₀ ws`; none of the first i of them has passed the mark.
pub record Going (ws answers₀ speeds₀ : List ℕ) (halt mark : ℕ) (c₀ : Car) (answers speeds : List ℕ) (c : Car) (r s : ℕ) (below : Bool) (i code answer : ℕ) : Type 0 where
  pub at : i ≤ length (searched halt c₀ ws)
  pub room : length ws ≤ length answers₀
  pub same : length answers ≡ length answers₀
  pub same_speeds : length speeds ≡ length speeds₀
  pub ok : Good c
  pub some : r ≤ i
  pub few : s ≤ i
  pub left : searched halt c (drop i ws) ≡ drop i (searched halt c₀ ws)
  pub hit : found halt c (drop i ws) ≡ found halt c₀ ws
  pub car : driven c (drop i (searched halt c₀ ws)) ≡ driven c₀ (searched halt c₀ ws)
  pub ref : r + refused_of c (drop i (searched halt c₀ ws)) ≡ refused_of c₀ (searched halt c₀ ws)
  pub sec : s + seconds_of mark c (drop i (searched halt c₀ ws)) ≡ seconds_of mark c₀ (searched halt c₀ ws)
  pub ans : take i answers ++ over_of answer_of c (drop i (searched halt c₀ ws)) (drop i answers) ≡ over_of answer_of c₀ (searched halt c₀ ws) answers₀
  pub spd : take i speeds ++ over_of speed_of c (drop i (searched halt c₀ ws)) (drop i speeds) ≡ over_of speed_of c₀ (searched halt c₀ ws) speeds₀
  pub is_code : code ≡ acceleration_code (acceleration_of c)
  pub is_answer : answer ≡ accepted_answer c
  pub is_below : below ≡ ltb c.speed halt

-- two cars that show the same figures and drive at the same speed
pub record Same (c car : Car) : Type 0 where
  pub acceleration : acceleration_of car ≡ acceleration_of c
  pub answer : accepted_answer car ≡ accepted_answer c
  pub speed : car.speed ≡ c.speed

-- ---- what a word makes of the car and the seconds, its refusal, and whether the car's figures have to be worked out again
pub record Turned (mark : ℕ) (c : Car) (w s : ℕ) (car : Car) (s' refusal : ℕ) (stale : Bool) : Type 0 where
  pub is_car : car ≡ (step_of c w).car
  pub is_refusal : refusal ≡ (step_of c w).refusal
  pub still : stale ≡ false → Same c car
  pub is_seconds : s' ≡ s + pick (ends_above mark c w) 1 0

module _ (mark : ℕ) (c : Car) (w s : ℕ) (car : Car) (s' refusal : ℕ) (stale : Bool) where
  pub turned_refused : (n : ℕ) → step_of c w ≡ record { car = c; refusal = n } → car ≡ c → refusal ≡ n → s' ≡ s + pick (ends_above mark c w) 1 0
      → Turned mark c w s car s' refusal stale
  turned_refused n e ec er k =
      record {
        is_car = ec ∙ sym (ap (λ (d : Driven). d.car) e);
        is_refusal = er ∙ sym (ap (λ (d : Driven). d.refusal) e);
        still = λ _. record { acceleration = ap acceleration_of ec; answer = ap accepted_answer ec; speed = ap (λ (x : Car). x.speed) ec };
        is_seconds = k;
      }

  pub turned_taken : (d : Car) → step_of c w ≡ record { car = d; refusal = 0 } → car ≡ d → refusal ≡ 0
      → (stale ≡ false → Same c car) → s' ≡ s + pick (ends_above mark c w) 1 0 → Turned mark c w s car s' refusal stale
  turned_taken d e ec er still k =
      record {
        is_car = ec ∙ sym (ap (λ (d : Driven). d.car) e);
        is_refusal = er ∙ sym (ap (λ (d : Driven). d.refusal) e);
        still = still;
        is_seconds = k;
      }

-- ---- what a tick's word counts
module _ (c : Car) (w : ℕ) (t : eqb (kind_of w) 10 ≡ true) (due : Bool) (ed : due ≡ test_due c) where
  pub tick_uncounted : (r : Refusal) → refusal_number r ≡ tick_refusal c w due → accepted_tick c w ≡ false
  tick_uncounted r e = refused_no_tick c w (refusal_number r) (tick_kept c w t due ed r e) (number_pos r _ refl)

  -- v after it decides
  pub took_counted : 0 ≡ tick_refusal c w due → (m : Moved) → m ≡ record { desired = tick_desired c; speed = tick_speed c (tick_desired c) }
      → (mark s : ℕ) {s' k : ℕ} → k ≡ pick (leb mark m.speed) 1 0 → s' ≡ s + k → s' ≡ s + pick (ends_above mark c w) 1 0
  unfolding ticked
  took_counted z m em mark s ek es =
      let z' : tick_refusal c w (test_due c) ≡ 0 = sym (rw ed at z) in
      let v : (step_of c w).car.speed ≡ m.speed = ap (λ (x : Driven). x.car.speed) (tick_taken c w t z') ∙ sym (ap (λ (x : Moved). x.speed) em) in
      counted mark c w s m.speed (tick_accepted c w t z') v (rw (← ek) es)

-- a flag that is up
pub stale_now : {A : Type 0} (stale : Bool) → stale ≡ true → stale ≡ false → A
stale_now stale t f = absurd (true≢false (sym t ∙ f))

-- a second that left v and D
pub unchanged : (c car : Car) (d v : ℕ) (stale : Bool) → car ≡ second_passed c d v
    → stale ≡ (not (eqb v c.speed) || not (eqb d c.cruise.desired)) → stale ≡ false
    → Same c car
unfolding second_passed
unchanged c car d v stale e s f = go (eqb v c.speed) (eqb d c.cruise.desired) refl refl (sym s ∙ f)
  where
    go : (p q : Bool) → eqb v c.speed ≡ p → eqb d c.cruise.desired ≡ q → (not p || not q) ≡ false
        → Same c car
    go true true a b h =
        let x : car ≡ second_passed c c.cruise.desired c.speed = e ∙ rw (eqb-true v c.speed a, eqb-true d c.cruise.desired b) in
        record { acceleration = ap acceleration_of x ∙ same_acceleration c; answer = ap accepted_answer x ∙ same_answer c; speed = ap (λ (y : Car). y.speed) x }
    go true false a b h = absurd (true≢false h)
    go false q a b h = absurd (true≢false h)

-- ---- a buffer after one turn
module _ (f : Driven → ℕ) (buf : List ℕ) (c : Car) (w : ℕ) (rest : List ℕ) (i : ℕ) (whole : List ℕ)
    (e : take i buf ++ over_of f c (w ∷ rest) (drop i buf) ≡ whole) where
  pub written : (x : ℕ) → i < length buf → x ≡ f (step_of c w)
      → take (i + 1) (set buf i x) ++ over_of f (step_of c w).car rest (drop (i + 1) (set buf i x)) ≡ whole
  unfolding over_of
  written x k q =
      let a = rw (drop-cons buf i 0 k) at e in
      rw (drop-set-lt (i + 1) buf i x (omega arith), q)
      (simp (add-one, take-suc-set buf i (f (step_of c w)) k, append_assoc) a)

  pub passed_by : length buf ≤ i → take (i + 1) buf ++ over_of f (step_of c w).car rest (drop (i + 1) buf) ≡ whole
  passed_by k =
      let a = rw (drop_of_length-le buf {i = i} k, over_none f c (w ∷ rest), take_all i buf k) at e in
      rw (drop_of_length-le buf {i = i + 1} (omega arith), over_none f (step_of c w).car rest, take_all (i + 1) buf (omega arith)) a

-- ---- nothing is left: what stands is the whole
module _ (ws answers₀ speeds₀ : List ℕ) (halt mark : ℕ) (c₀ : Car) where
  abbrev driven_words : List ℕ
  driven_words = searched halt c₀ ws

  whole_of : (answers speeds : List ℕ) (c : Car) (r s : ℕ) (hit : Bool) (i : ℕ) → i ≤ length driven_words → drop i driven_words ≡ []
      → driven c (drop i driven_words) ≡ driven c₀ driven_words
      → r + refused_of c (drop i driven_words) ≡ refused_of c₀ driven_words
      → s + seconds_of mark c (drop i driven_words) ≡ seconds_of mark c₀ driven_words
      → hit ≡ found halt c₀ ws
      → take i answers ++ over_of answer_of c (drop i driven_words) (drop i answers) ≡ over_of answer_of c₀ driven_words answers₀
      → take i speeds ++ over_of speed_of c (drop i driven_words) (drop i speeds) ≡ over_of speed_of c₀ driven_words speeds₀
      → (◌≡◌ {A = Ran} (record { car = c; accepted = i - r; refused = r; seconds = s; found = hit; refusal = 0 }) (ran_of halt mark c₀ ws))
      × (answers ≡ over_of answer_of c₀ driven_words answers₀) × (speeds ≡ over_of speed_of c₀ driven_words speeds₀)
  unfolding driven refused_of seconds_of over_of ran_of
  whole_of answers speeds c r s hit i at gone ec er es eh ans spd =
      let last : i ≡ length driven_words = omega (arith, at, length-drop i driven_words, ap length gone) in
      let e₁ : c ≡ driven c₀ driven_words = rw gone at ec in
      let e₂ : r ≡ refused_of c₀ driven_words = (let e = rw gone at er in omega (arith, e)) in
      let e₃ : i - r ≡ accepted_of c₀ driven_words = omega (arith, e₂, last, counts_all c₀ driven_words) in
      let e₄ : s ≡ seconds_of mark c₀ driven_words = (let e = rw gone at es in omega (arith, e)) in
      (cc (e₁, e₂, e₃, e₄, eh), sym (take-append-drop i answers) ∙ rw gone at ans, sym (take-append-drop i speeds) ∙ rw gone at spd)

-- ---- one turn
module _ (ws answers₀ speeds₀ : List ℕ) (halt mark : ℕ) (c₀ : Car) (answers speeds : List ℕ) (c : Car) (r s : ℕ) (below : Bool) (i code answer : ℕ)
    (h : i < length ws) (g : Going ws answers₀ speeds₀ halt mark c₀ answers speeds c r s below i code answer) where
  abbrev w : ℕ
  w = get_or ws i 0

  -- the words that are driven, and those still to be driven behind this one
  abbrev all : List ℕ
  all = searched halt c₀ ws

  abbrev behind : List ℕ
  behind = pick (passes halt c w) [] (searched halt (step_of c w).car (drop (i + 1) ws))

  left_now : drop i all ≡ w ∷ behind
  unfolding searched
  left_now = sym g.left ∙ rw (drop-cons ws i 0 h, add-one)

  pub in_all : i < length all
  in_all = omega (arith, length-drop i all, ap length left_now)

  left_next : behind ≡ drop (i + 1) all
  left_next =
      let e : w ∷ behind ≡ get_or all i 0 ∷ drop (i + 1) all = sym left_now ∙ simp add-one (drop-cons all i 0 in_all) in
      cc

  pub next_left : drop i all ≡ w ∷ drop (i + 1) all
  next_left = left_now ∙ ap (λ (x : List ℕ). w ∷ x) left_next

  -- ---- the figures after it, worked out again or kept, and whether it passed the mark
  pub record Shown (car : Car) (passed below' : Bool) (code' answer' : ℕ) : Type 0 where
    pub is_code : code' ≡ acceleration_code (acceleration_of car)
    pub is_answer : answer' ≡ accepted_answer car
    pub is_passed : passed ≡ passes halt c w
    pub is_below : below' ≡ ltb car.speed halt

  pub shown_anew : (car : Car) (s' refusal : ℕ) (stale : Bool) {passed below' : Bool} {code' answer' : ℕ} → Turned mark c w s car s' refusal stale
      → code' ≡ acceleration_code (acceleration_of car) → answer' ≡ accepted_answer car → passed ≡ (below && leb halt car.speed) → below' ≡ ltb car.speed halt
      → Shown car passed below' code' answer'
  shown_anew car s' refusal stale t ec ea ee eb =
      let v : car.speed ≡ (step_of c w).car.speed = ap (λ (x : Car). x.speed) t.is_car in
      record { is_code = ec; is_answer = ea; is_passed = ee ∙ rw (g.is_below, v, crosses halt c w); is_below = eb }

  -- v stands, so that it passes nothing
  pub shown_still : (car : Car) (s' refusal : ℕ) (stale : Bool) {passed below' : Bool} {code' answer' : ℕ} → Turned mark c w s car s' refusal stale
      → stale ≡ false → code' ≡ code → answer' ≡ answer → passed ≡ false → below' ≡ below → Shown car passed below' code' answer'
  shown_still car s' refusal stale t n ec ea ee eb =
      let q = t.still n in
      let v : (step_of c w).car.speed ≡ c.speed = sym (ap (λ (x : Car). x.speed) t.is_car) ∙ q.speed in
      record {
        is_code = ec ∙ g.is_code ∙ ap acceleration_code (sym q.acceleration);
        is_answer = ea ∙ g.is_answer ∙ sym q.answer;
        is_passed = ee ∙ sym (crosses halt c w ∙ rw v (apart c.speed halt));
        is_below = eb ∙ g.is_below ∙ rw q.speed;
      }
    where
      apart : (v n : ℕ) → (ltb v n && leb n v) ≡ false
      apart v n = go (ltb v n) refl
        where
          go : (p : Bool) → ltb v n ≡ p → (p && leb n v) ≡ false
          go true e = lt-leb n v (ltb-true v n e)
          go false e = refl

  module _ (car : Car) (s' refusal : ℕ) (stale passed below' : Bool) (r' code' answer' : ℕ) (t : Turned mark c w s car s' refusal stale) (er : r' ≡ r + refuses (step_of c w))
      (v : Shown car passed below' code' answer') where
    pub few_next : (r' ≤ i + 1) × (s' ≤ i + 1)
    few_next = (
      omega (arith, er, g.some, pick_le (eqb (step_of c w).refusal 0) 0 1 1 (omega arith) (omega arith)),
      omega (arith, t.is_seconds, g.few, pick_le (ends_above mark c w) 1 0 1 (omega arith) (omega arith)),
    )

    car_next : driven car (drop (i + 1) all) ≡ driven c₀ all
    unfolding driven
    car_next = rw t.is_car (rw next_left at g.car)

    ref_next : r' + refused_of car (drop (i + 1) all) ≡ refused_of c₀ all
    unfolding refused_of
    ref_next = let n = rw next_left at g.ref in rw t.is_car (omega (arith, er, n))

    sec_next : s' + seconds_of mark car (drop (i + 1) all) ≡ seconds_of mark c₀ all
    unfolding seconds_of
    sec_next = let k = rw next_left at g.sec in let e = t.is_seconds in rw t.is_car (omega (arith, e, k))

    hit_now : (passes halt c w || found halt (step_of c w).car (drop (i + 1) ws)) ≡ found halt c₀ ws
    unfolding found
    hit_now = let f = rw (drop-cons ws i 0 h) at g.hit in simp add-one f

    pub again : (answers' speeds' : List ℕ) → passed ≡ false
        → length answers' ≡ length answers → length speeds' ≡ length speeds
        → take (i + 1) answers' ++ over_of answer_of (step_of c w).car (drop (i + 1) all) (drop (i + 1) answers') ≡ over_of answer_of c₀ all answers₀
        → take (i + 1) speeds' ++ over_of speed_of (step_of c w).car (drop (i + 1) all) (drop (i + 1) speeds') ≡ over_of speed_of c₀ all speeds₀
        → Going ws answers₀ speeds₀ halt mark c₀ answers' speeds' car r' s' below' (i + 1) code' answer'
    again answers' speeds' p la ls ans spd =
        let no_pass : passes halt c w ≡ false = sym v.is_passed ∙ p in
        record {
          at = omega (arith, in_all);
          room = g.room;
          same = la ∙ g.same;
          same_speeds = ls ∙ g.same_speeds;
          ok = rw t.is_car (step_keeps c w g.ok);
          some = few_next.0;
          few = few_next.1;
          left = rw t.is_car (sym (pick_false _ _ _ no_pass) ∙ left_next);
          hit = rw t.is_car (rw no_pass at hit_now);
          car = car_next;
          ref = ref_next;
          sec = sec_next;
          ans = rw t.is_car ans;
          spd = rw t.is_car spd;
          is_code = v.is_code;
          is_answer = v.is_answer;
          is_below = v.is_below;
        }

    -- ---- the word that passes the mark is the last
    module _ (p : passed ≡ true) where
      none_left : drop (i + 1) all ≡ []
      none_left = sym left_next ∙ pick_true _ _ _ (sym v.is_passed ∙ p)

      pub stops : (answers' speeds' : List ℕ)
          → take (i + 1) answers' ++ over_of answer_of (step_of c w).car (drop (i + 1) all) (drop (i + 1) answers') ≡ over_of answer_of c₀ all answers₀
          → take (i + 1) speeds' ++ over_of speed_of (step_of c w).car (drop (i + 1) all) (drop (i + 1) speeds') ≡ over_of speed_of c₀ all speeds₀
          → (◌≡◌ {A = Ran} (record { car = car; accepted = i + 1 - r'; refused = r'; seconds = s'; found = true; refusal = 0 }) (ran_of halt mark c₀ ws))
          × (answers' ≡ over_of answer_of c₀ all answers₀) × (speeds' ≡ over_of speed_of c₀ all speeds₀)
      stops answers' speeds' ans spd =
          whole_of ws answers₀ speeds₀ halt mark c₀ answers' speeds' car r' s' true (i + 1) (omega (arith, in_all)) none_left car_next ref_next sec_next
          (rw (sym v.is_passed ∙ p) at hit_now) (rw t.is_car ans) (rw t.is_car spd)

  -- the answer word that is written
  pub answered : (car : Car) (s' refusal : ℕ) (stale : Bool) (answer' x : ℕ) → Turned mark c w s car s' refusal stale → answer' ≡ accepted_answer car
      → x ≡ (answer' + refusal) % 2 ^ 32 → x ≡ answer_of (step_of c w)
  answered car s' refusal stale answer' x t ea ex =
      let d = step_of c w in
      let l = refusal_le c w in
      ex ∙ rw (ea, t.is_car, t.is_refusal) (answer_adds d (omega arith) (step_keeps c w g.ok).ranges)

  -- one more refused, or not
  pub more : (car : Car) (s' refusal : ℕ) (stale : Bool) → Turned mark c w s car s' refusal stale → (refusal ≡ 0 → ⊥) → r + 1 ≡ r + refuses (step_of c w)
  more car s' refusal stale t n = omega (arith, pick_false {A = ℕ} (eqb (step_of c w).refusal 0) 0 1 (ne_eqb _ _ (λ z. n (t.is_refusal ∙ z))))

  pub no_more : (car : Car) (s' refusal : ℕ) (stale : Bool) → Turned mark c w s car s' refusal stale → refusal ≡ 0 → r ≡ r + refuses (step_of c w)
  no_more car s' refusal stale t z = omega (arith, pick_true {A = ℕ} (eqb (step_of c w).refusal 0) 0 1 (eq-eqb _ _ (sym t.is_refusal ∙ z)))

-- where the loop ends, and where it begins
pub ends : (ws answers₀ speeds₀ : List ℕ) (halt mark : ℕ) (c₀ : Car) (answers speeds : List ℕ) (c : Car) (r s : ℕ) (below : Bool) (i code answer : ℕ) → length ws ≤ i
    → Going ws answers₀ speeds₀ halt mark c₀ answers speeds c r s below i code answer
    → (◌≡◌ {A = Ran} (record { car = c; accepted = length ws - r; refused = r; seconds = s; found = false; refusal = 0 }) (ran_of halt mark c₀ ws))
    × (answers ≡ over_of answer_of c₀ (searched halt c₀ ws) answers₀) × (speeds ≡ over_of speed_of c₀ (searched halt c₀ ws) speeds₀)
unfolding found searched
ends ws answers₀ speeds₀ halt mark c₀ answers speeds c r s below i code answer h g =
    let gone : drop i ws ≡ [] = drop_of_length-le ws {i = i} h in
    let none : drop i (searched halt c₀ ws) ≡ [] = sym g.left ∙ rw gone in
    let all : i ≡ length ws = omega (arith, h, g.at, searched_few halt c₀ ws) in
    rw (← all) (whole_of ws answers₀ speeds₀ halt mark c₀ answers speeds c r s false i g.at none g.car g.ref g.sec (rw gone at g.hit) g.ans g.spd)

pub begins : (ws answers speeds : List ℕ) (halt mark : ℕ) (c : Car) (code answer : ℕ) → Good c → length ws ≤ length answers
    → code ≡ acceleration_code (acceleration_of c) → answer ≡ accepted_answer c
    → Going ws answers speeds halt mark c answers speeds c 0 0 (ltb c.speed halt) 0 code answer
begins ws answers speeds halt mark c code answer ok h ec ea =
    record {
      at = omega arith;
      room = h;
      same = refl;
      same_speeds = refl;
      ok = ok;
      some = omega arith;
      few = omega arith;
      left = refl;
      hit = refl;
      car = refl;
      ref = omega arith;
      sec = omega arith;
      ans = refl;
      spd = refl;
      is_code = ec;
      is_answer = ea;
      is_below = refl;
    }
