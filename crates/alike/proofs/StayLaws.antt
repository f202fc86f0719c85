-- Alike cars, both good, stay alike: document 02, §9. One word, then words one after the other.
-- Assumes nothing.
use Rattle.std.specs.Prelude.{Bool, true, false, ◌≡◌, refl, List, [], ◌∷◌, ℕ, ◌≤◌, ◌<◌, ◌++◌, eqb, ltb, length, drop}
use Rattle.std.proofs.Common.{sym, ◌∙◌, ap, subst, arith, eq-eqb, ne_eqb}
use Rattle.kit.specs.Bounds.{lesson_length}
use Rattle.kit.specs.Pick.{pick, pick_true, and_r, either}
use Rattle.event.specs.Words.{read_of}
use Rattle.car.specs.declared.Car.{Car}
use Rattle.car.specs.Acceleration.{target_of, acceleration_of}
use Rattle.car.specs.Distance.{secure_distance, ahead, within, close, visual, acoustic}
use Rattle.car.specs.Drive.{reads, is_tick, step_of, drive_of, accepted, accepted_tick}
use Rattle.car.specs.Good.{good_of}
use Rattle.car.proofs.GoodLaws.{good}
use Rattle.car.specs.Lesson.{answering, answer_of, accepts, driven, each_of, answers_of, accepted_of, taught_of, untaught, lesson_of, each_after, answers_after}
use Rattle.car.specs.Standing.{Good}
use Rattle.car.proofs.StepLaws.{step_refusal, step_good, drive_step}
use Rattle.car.proofs.LessonLaws.{counts_all}
use Rattle.history.proofs.HistoryLaws.{now_step}
use Rattle.alike.specs.Alike.{alike_of}
use Rattle.alike.specs.StayAlike.{Refused, AtEnd, Together, pattern, tick_words, Room, TogetherAll, SameLesson, Apart, in_speed, in_desired}
use Rattle.alike.proofs.Shift.{timed, shift}
use Rattle.alike.proofs.ShiftLaws.{Refusals, same, first, second, word_refusals, step_shift}
use Rattle.alike.proofs.AlikeLaws.{Alike, alike, alike_test, back, shift_alike, Shifted, later, earlier, shifted}

-- ---- one word, by its checks and the rules alone
record Steps (a b : Car) (w : ℕ) : Type 0 where
  refusals : Refusals (reads is_tick (read_of w)) (step_of a w).refusal (step_of b w).refusal a.now b.now
  alike : eqb (step_of a w).refusal 0 ≡ eqb (step_of b w).refusal 0 → Alike (step_of a w).car (step_of b w).car

refusals_back : {tick : Bool} {m n s t : ℕ} → Refusals tick m n s t → Refusals tick n m t s
refusals_back (same e) = same (sym e)
refusals_back (first k e f g) = second k e f g
refusals_back (second k e f g) = first k e f g

steps_back : (a b : Car) (w : ℕ) → Steps a b w → Steps b a w
steps_back a b w s = record { refusals = refusals_back s.refusals; alike = λ h. back _ _ (s.alike (sym h)) }

steps_shift : (n : ℕ) (c : Car) (w : ℕ) → (shift n c).now ≤ lesson_length → Steps c (shift n c) w
unfolding shift timed
steps_shift n c w h =
    record {
      refusals = rw (step_refusal c w, step_refusal (shift n c) w) (word_refusals n c w h);
      alike = λ q. rw (step_shift n c w (sym (ap (λ (k : ℕ). eqb k 0) (step_refusal c w)) ∙ q ∙ ap (λ (k : ℕ). eqb k 0) (step_refusal (shift n c) w))) (shift_alike n (step_of c w).car);
    }

steps : (a b : Car) (w : ℕ) → Good a → Good b → Alike a b → Steps a b w
steps a b w g h e = by (shifted a b g h e)
  where
    by : Shifted a b → Steps a b w
    by (later n q) = subst (λ (x : Car). Steps a x w) q (steps_shift n a w (rw q h.ranges.now))
    by (earlier n q) = subst (λ (x : Car). Steps x b w) q (steps_back _ _ w (steps_shift n b w (rw q g.ranges.now)))

-- ---- one word, as it is driven
module _ (a b : Car) (w : ℕ) (d : Refusals (reads is_tick (read_of w)) (drive_of a w).refusal (drive_of b w).refusal a.now b.now) where
  same_number : Refused a w → Refused b w → (drive_of a w).refusal ≡ (drive_of b w).refusal
  same_number m n = go d
    where
      go : Refusals (reads is_tick (read_of w)) (drive_of a w).refusal (drive_of b w).refusal a.now b.now → (drive_of a w).refusal ≡ (drive_of b w).refusal
      go (same q) = q
      go (first k q t z) = absurd (n z)
      go (second k q t z) = absurd (m z)

  alone : Refused a w → (drive_of b w).refusal ≡ 0 → AtEnd a w
  alone n z = go d
    where
      go : Refusals (reads is_tick (read_of w)) (drive_of a w).refusal (drive_of b w).refusal a.now b.now → AtEnd a w
      go (same q) = absurd (n (q ∙ z))
      go (first k q t m) = record { tick = k; refusal = q; clock = t }
      go (second k q t m) = absurd (n m)

pub together : (a b : Car) (w : ℕ) → good_of a ≡ true → good_of b ≡ true → alike_of a b ≡ true → Together a b w
together a b w g h e =
    let s = steps a b w (good a g) (good b h) (alike a b e) in
    let d : Refusals (reads is_tick (read_of w)) (drive_of a w).refusal (drive_of b w).refusal a.now b.now =
    rw (drive_step a w g, drive_step b w h) s.refusals in
    let k : eqb (drive_of a w).refusal 0 ≡ eqb (drive_of b w).refusal 0 → alike_of (drive_of a w).car (drive_of b w).car ≡ true =
    rw (drive_step a w g, drive_step b w h) (λ q. alike_test _ _ (s.alike q)) in
    record {
      accepted = λ m n. k (eq-eqb _ _ m ∙ sym (eq-eqb _ _ n));
      refused = λ m n. k (ne_eqb _ _ m ∙ sym (ne_eqb _ _ n));
      number = same_number a b w d;
      first_alone = alone a b w d;
      second_alone = λ z n. alone b a w (refusals_back d) n z;
    }

-- ---- words one after the other
-- the answer word of a car is that of every car alike to it
answer_same : (a b : Car) (n : ℕ) → Alike a b → answer_of (record { refusal = n; car = a }) ≡ answer_of (record { refusal = n; car = b })
unfolding answer_of answering visual acoustic acceleration_of target_of close within ahead secure_distance timed
answer_same a b n e = ap (λ (c : Car). answer_of (record { refusal = n; car = c })) e.rest

-- both 1, or both 0
one_of : (t u : Bool) → pick t 1 0 ≡ pick {A = ℕ} u 1 0 → t ≡ u
unfolding pick
one_of true true e = refl
one_of false false e = refl
one_of true false e = absurd (omega arith)
one_of false true e = absurd (omega arith)

same_refusal : {tick : Bool} {m n s t : ℕ} → Refusals tick m n s t → eqb m 0 ≡ eqb n 0 → m ≡ n
same_refusal (same e) q = e
same_refusal (first k e f g) q = cc
same_refusal (second k e f g) q = cc

-- what the first word of a list with one pattern leaves, for the rest
record Onward (a b : Car) (w : ℕ) (ws : List ℕ) : Type 0 where
  alike : Alike (step_of a w).car (step_of b w).car
  answer : answer_of (step_of a w) ≡ answer_of (step_of b w)
  rest : pattern (step_of a w).car ws ≡ pattern (step_of b w).car ws

onward : (a b : Car) (w : ℕ) (ws : List ℕ) → good_of a ≡ true → good_of b ≡ true → Alike a b → pattern a (w ∷ ws) ≡ pattern b (w ∷ ws) → Onward a b w ws
unfolding each_of
onward a b w ws g h e q =
    let s = steps a b w (good a g) (good b h) e in
    let p : accepts (step_of a w) ≡ accepts (step_of b w) = cc in
    let o = one_of _ _ p in
    let k = s.alike o in
    record {
      alike = k;
      answer = answer_same (step_of a w).car (step_of b w).car (step_of a w).refusal k ∙ rw (same_refusal s.refusals o) refl;
      rest = cc;
    }

driven_alike : (a b : Car) (ws : List ℕ) → good_of a ≡ true → good_of b ≡ true → Alike a b → pattern a ws ≡ pattern b ws → Alike (driven a ws) (driven b ws)
unfolding driven
driven_alike a b [] g h e q = e
driven_alike a b (w ∷ ws) g h e q =
    let o = onward a b w ws g h e q in
    driven_alike (step_of a w).car (step_of b w).car ws (step_good a w g) (step_good b w h) o.alike o.rest

answers_alike : (a b : Car) (ws : List ℕ) → good_of a ≡ true → good_of b ≡ true → Alike a b → pattern a ws ≡ pattern b ws → answers_of a ws ≡ answers_of b ws
unfolding each_of
answers_alike a b [] g h e q = refl
answers_alike a b (w ∷ ws) g h e q =
    let o = onward a b w ws g h e q in
    rw (o.answer, answers_alike (step_of a w).car (step_of b w).car ws (step_good a w g) (step_good b w h) o.alike o.rest)

accepted_same : (a b : Car) (ws : List ℕ) → pattern a ws ≡ pattern b ws → accepted_of a ws ≡ accepted_of b ws
unfolding each_of accepted_of
accepted_same a b [] q = refl
accepted_same a b (w ∷ ws) q =
    let p : accepts (step_of a w) ≡ accepts (step_of b w) = cc in
    let r : pattern (step_of a w).car ws ≡ pattern (step_of b w).car ws = cc in
    omega (arith, p, accepted_same (step_of a w).car (step_of b w).car ws r)

-- ---- with room on both clocks no word is refused to one alone
before_end : {tick : Bool} {m n s t : ℕ} → Refusals tick m n s t → (tick ≡ true → s < lesson_length) → (tick ≡ true → t < lesson_length) → m ≡ n
before_end (same e) h k = e
before_end (first p e f g) h k = let l = h p in absurd (omega arith)
before_end (second p e f g) h k = let l = k p in absurd (omega arith)

fewer : (t u : Bool) → (t ≡ true → u ≡ true) → pick t 1 0 ≤ pick u 1 0
unfolding pick
fewer true u i = rw (i refl) (omega arith)
fewer false u i = omega arith

module _ (c : Car) (w : ℕ) (ws : List ℕ) (r : Room c (w ∷ ws)) where
  room_now : reads is_tick (read_of w) ≡ true → c.now < lesson_length
  unfolding tick_words
  room_now t = omega (arith, r, pick_true {A = ℕ} (reads is_tick (read_of w)) 1 0 t)

  -- an accepted tick takes a second of the clock and of the room, and no other word takes any of the clock
  room_on : good_of c ≡ true → Room (step_of c w).car ws
  unfolding tick_words
  room_on g = omega (arith, r, now_step c w g, fewer (accepted_tick c w) (reads is_tick (read_of w)) (and_r (accepted c w) _))

same_pattern : (a b : Car) (ws : List ℕ) → good_of a ≡ true → good_of b ≡ true → Alike a b → Room a ws → Room b ws → pattern a ws ≡ pattern b ws
unfolding each_of
same_pattern a b [] g h e l m = refl
same_pattern a b (w ∷ ws) g h e l m =
    let s = steps a b w (good a g) (good b h) e in
    let q = before_end s.refusals (room_now a w ws l) (room_now b w ws m) in
    let k = same_pattern (step_of a w).car (step_of b w).car ws (step_good a w g) (step_good b w h) (s.alike (ap (λ (n : ℕ). eqb n 0) q)) (room_on a w ws l g) (room_on b w ws m h) in
    rw (q, k)

-- ---- the promise of lists
module _ (a b : Car) (ws : List ℕ) (g : good_of a ≡ true) (h : good_of b ≡ true) (e : alike_of a b ≡ true) where
  pub together_all : TogetherAll a b ws
  together_all =
      let i = alike a b e in
      record {
        alike = λ q. alike_test _ _ (driven_alike a b ws g h i q);
        answers = answers_alike a b ws g h i;
        same_pattern = same_pattern a b ws g h i;
      }

  -- a lesson, as it is called, of both
  pub same_lesson : (buffer : List ℕ) → pattern a ws ≡ pattern b ws
      → SameLesson (lesson_of a ws buffer) (lesson_of b ws buffer) (answers_after a ws buffer) (answers_after b ws buffer)
  unfolding lesson_of each_after pick taught_of untaught
  same_lesson buffer q =
      let n = accepted_same a b ws q in
      either (ltb (length buffer) (length ws))
      (λ s. rw (g, h, s) (record { refusal = refl; accepted = refl; refused = refl; answers = refl; alike = e }))
      (λ s. rw (g, h, s) (record {
        refusal = refl;
        accepted = n;
        refused = omega (arith, n, counts_all a ws, counts_all b ws);
        answers = ap (λ (x : List ℕ). x ++ drop (length ws) buffer) (together_all.answers q);
        alike = together_all.alike q;
      }))

  -- what document 02, §9, tells cannot happen: different v or D after one list of words
  pub never_apart : Room a ws → Room b ws → Apart (driven a ws) (driven b ws) → ⊥
  unfolding timed
  never_apart l m p = go (driven_alike a b ws g h (alike a b e) (together_all.same_pattern l m)) p
    where
      go : Alike (driven a ws) (driven b ws) → Apart (driven a ws) (driven b ws) → ⊥
      go k (in_speed n) = n (ap (λ (c : Car). c.speed) k.rest)
      go k (in_desired n) = n (ap (λ (c : Car). c.cruise.desired) k.rest)
