-- Laws of a speed mark: no word but an accepted tick raises v; a mark of 0 is never passed; the words that a search drives; what a word counts.
-- Assumes nothing.
use Rattle.std.specs.Prelude.{Bool, ◌&&◌, List, [], ◌∷◌, ◌≡◌, ℕ, ◌+◌, ◌≤◌, ◌<◌, eqb, length}
use Rattle.std.proofs.Math.Bool.{true, false}
use Rattle.std.proofs.Math.Path.{refl, ap}
use Rattle.std.proofs.Common.{sym, ◌∙◌}
use native.Mathlib.Omega.{arith}
use borrow.Author.Tests.{lt-ltb, le-ltb, le-leb, ltb-true, leb-true, eq-eqb, ne_eqb}
use Rattle.std.proofs.Math.Dec.{ltb, leb}
use Rattle.kit.specs.Answer.{Answer, gives, refused}
use Rattle.kit.specs.Pick.{pick, pick_false, pick_case, either, and_l, and_r, and_both, and_left, and_right, and_next}
use Rattle.event.specs.declared.Input.{Input}
use Rattle.event.specs.declared.Input.TheVariants.{Key, UpDown, ForeBack, Brake, Gas, Button, Gap, Sign, Radar}
use Rattle.event.specs.declared.Event.TheVariants as event
use Rattle.event.specs.Words.{kind_of, read_of, input_of, input_event}
use Rattle.event.proofs.WordLaws.{read_input}
use Rattle.car.specs.declared.Car.{Car}
use Rattle.car.specs.Drive.{Driven, input_next, event_next, check_of, step_of, accepted, reads, is_tick, accepted_tick}
use Rattle.car.specs.Car.{with_levers, with_pedals, with_limiter, with_cruise, with_radar, with_gap}
use Rattle.car.proofs.DriveLaws.{accepted_as_lem, tick_read_taken}
use Rattle.car.specs.LessonShape.{tick_refusal}
use Rattle.car.specs.Good.{good_of}
use Rattle.car.specs.Lesson.{taught_of, untaught, lesson_of, each_after, answers_after}
use Rattle.car.specs.Mark.{passes, ends_above, searched, ran_of, as_taught, unran, run_of, run_after}
use Rattle.car.specs.Rules.{key_turned, up_down_moved, with_foreback, engages, engaged, forward, cruise_off, backward, fore_back_moved, brake_pressed, gas_pressed, button_pressed, sign_passed, reading_taken, test_due}
use Rattle.car.proofs.StepLaws.{Stepping, went, stayed, stepping, step_refusal}

-- ---- one word
-- of the inputs only the key moves v, to 0
module _ (c : Car) where
  foreback_speed : (y : ℕ) → (fore_back_moved c y).speed ≤ c.speed
  unfolding fore_back_moved forward engaged backward cruise_off with_foreback with_levers with_limiter with_cruise pick
  foreback_speed y =
      either (eqb y 1)
      (λ p. either (engages (with_foreback c y)) (λ r. rw (p, r) (omega arith)) (λ r. rw (p, r) (omega arith)))
      (λ p. either (eqb y 2) (λ q. rw (p, q) (omega arith)) (λ q. rw (p, q) (omega arith)))

  input_speed : (i : Input) → (input_next c i).speed ≤ c.speed
  unfolding input_next key_turned up_down_moved brake_pressed cruise_off gas_pressed button_pressed sign_passed reading_taken with_levers with_pedals with_limiter with_cruise with_radar with_gap pick
  input_speed (Key position ready) = omega arith
  input_speed (UpDown x) = omega arith
  input_speed (ForeBack y) = foreback_speed y
  input_speed (Brake x) = either (ltb 0 x) (λ e. rw e (omega arith)) (λ e. rw e (omega arith))
  input_speed (Gas x) = omega arith
  input_speed (Button limit) = omega arith
  input_speed (Gap tenths) = omega arith
  input_speed (Sign s) = omega arith
  input_speed (Radar range speed) = omega arith

module _ (mark : ℕ) (c : Car) (w : ℕ) where
  pub passes_says : passes mark c w ≡ true → (accepted_tick c w ≡ true) × (c.speed < mark) × (mark ≤ (step_of c w).car.speed)
  unfolding passes
  passes_says p =
      let q = and_r (accepted_tick c w) (ltb c.speed mark && leb mark (step_of c w).car.speed) p in
      (and_l (accepted_tick c w) _ p, ltb-true c.speed mark (and_l _ _ q), leb-true mark _ (and_r (ltb c.speed mark) _ q))

  pub says_passes : accepted_tick c w ≡ true → c.speed < mark → mark ≤ (step_of c w).car.speed → passes mark c w ≡ true
  unfolding passes
  says_passes t b a = and_both _ _ t (and_both _ _ (lt-ltb _ _ b) (le-leb _ _ a))

  -- no other word raises v
  pub crossing_ticks : c.speed < mark → mark ≤ (step_of c w).car.speed → passes mark c w ≡ true
  unfolding event_next is_tick
  crossing_ticks b a = go (stepping c w)
    where
      go : Stepping c w → passes mark c w ≡ true
      go (went (event.Input i) r n h z q) = absurd (omega (arith, input_speed c i, ap (λ (d : Driven). d.car.speed) q))
      go (went (event.Tick ready) r n h z q) = says_passes (accepted_as_lem is_tick c w (event.Tick ready) r (eq-eqb (check_of c w) 0 z)) b a
      go (stayed n q) = absurd (omega (arith, ap (λ (d : Driven). d.car.speed) q))

-- so whether a word passes the mark is told by v before and after it
pub crosses : (mark : ℕ) (c : Car) (w : ℕ) → passes mark c w ≡ (ltb c.speed mark && leb mark (step_of c w).car.speed)
unfolding passes
crosses mark c w = either (ltb c.speed mark && leb mark (step_of c w).car.speed) yes (λ n. and_right (accepted_tick c w) (ltb c.speed mark && leb mark (step_of c w).car.speed) n ∙ sym n)
  where
    yes : (ltb c.speed mark && leb mark (step_of c w).car.speed) ≡ true → passes mark c w ≡ (ltb c.speed mark && leb mark (step_of c w).car.speed)
    yes y = crossing_ticks mark c w (ltb-true c.speed mark (and_l _ _ y)) (leb-true mark (step_of c w).car.speed (and_r (ltb c.speed mark) _ y)) ∙ sym y

-- "a mark of 0 is never passed"
pub passes_0 : (c : Car) (w : ℕ) → passes 0 c w ≡ false
unfolding passes
passes_0 c w =
    and_right (accepted_tick c w) (ltb c.speed 0 && leb 0 (step_of c w).car.speed) (and_left (ltb c.speed 0) (leb 0 (step_of c w).car.speed) (le-ltb c.speed 0 (omega arith)))

pub searched_0 : (c : Car) (ws : List ℕ) → searched 0 c ws ≡ ws
unfolding searched
searched_0 c [] = refl
searched_0 c (w ∷ ws) = ap (λ (x : List ℕ). w ∷ x) (pick_false _ _ _ (passes_0 c w) ∙ searched_0 (step_of c w).car ws)

-- a search drives no more words than there are
pub searched_few : (mark : ℕ) (c : Car) (ws : List ℕ) → length (searched mark c ws) ≤ length ws
unfolding searched
searched_few mark c [] = omega arith
searched_few mark c (w ∷ ws) =
    pick_case (λ (x : List ℕ). length (w ∷ x) ≤ length (w ∷ ws)) (passes mark c w) [] (searched mark (step_of c w).car ws)
    (λ _. omega arith)
    (λ _. omega (arith, searched_few mark (step_of c w).car ws))

-- ---- nothing stops a run with the mark 0: it is a lesson
module _ (c : Car) (ws : List ℕ) (mark : ℕ) where
  pub ran_whole : as_taught (ran_of 0 mark c ws) ≡ taught_of c ws
  unfolding ran_of taught_of
  ran_whole = rw (searched_0 c ws)

  pub run_whole : (answers : List ℕ) → as_taught (run_of 0 mark c ws answers) ≡ lesson_of c ws answers
  unfolding run_of lesson_of unran untaught pick
  run_whole answers = go (good_of c) (ltb (length answers) (length ws)) refl refl
    where
      go : (p q : Bool) → good_of c ≡ p → ltb (length answers) (length ws) ≡ q → as_taught (run_of 0 mark c ws answers) ≡ lesson_of c ws answers
      go true true g h = rw (g, h)
      go true false g h = rw (g, h) ran_whole
      go false q g h = rw g

pub after_whole : (c : Car) (ws answers : List ℕ) → run_after 0 c ws answers ≡ answers_after c ws answers
unfolding run_after each_after
after_whole c ws answers = rw (searched_0 c ws)

-- ---- which words are accepted ticks
-- a word that is refused
pub refused_no_tick : (c : Car) (w n : ℕ) → step_of c w ≡ record { car = c; refusal = n } → (n ≡ 0 → ⊥) → accepted_tick c w ≡ false
refused_no_tick c w n e z =
    let r : check_of c w ≡ n = sym (step_refusal c w) ∙ ap (λ (d : Driven). d.refusal) e in
    and_left _ _ (ne_eqb (check_of c w) 0 (λ q. z (sym r ∙ q)))

-- an input's word
pub input_no_tick : (c : Car) (w : ℕ) → eqb (kind_of w) 10 ≡ false → accepted_tick c w ≡ false
unfolding reads is_tick input_event
input_no_tick c w t = go (accepted c w) (input_of w) (read_input w t)
  where
    go : (a : Bool) (i : Answer Input) → read_of w ≡ input_event i → (a && reads is_tick (read_of w)) ≡ false
    go true (gives i) h = rw h
    go true (refused n) h = rw h
    go false i h = refl

-- a tick's word that no check refuses
pub tick_accepted : (c : Car) (w : ℕ) → eqb (kind_of w) 10 ≡ true → tick_refusal c w (test_due c) ≡ 0 → accepted_tick c w ≡ true
unfolding reads is_tick
tick_accepted c w t z =
    let r = tick_read_taken c w t z in
    and_next _ _ (eq-eqb (check_of c w) 0 r.1) ∙ rw r.0

-- ---- what a word counts, by whether it is an accepted tick
module _ (mark : ℕ) (c : Car) (w s : ℕ) {s' : ℕ} where
  pub uncounted : accepted_tick c w ≡ false → s' ≡ s → s' ≡ s + pick (ends_above mark c w) 1 0
  unfolding ends_above
  uncounted n e = let a = pick_false {A = ℕ} (ends_above mark c w) 1 0 (and_left _ _ n) in omega (arith, a)

  pub counted : (v : ℕ) → accepted_tick c w ≡ true → (step_of c w).car.speed ≡ v → s' ≡ s + pick (leb mark v) 1 0 → s' ≡ s + pick (ends_above mark c w) 1 0
  unfolding ends_above
  counted v y e es = rw (and_next _ (leb mark (step_of c w).car.speed) y, e) es
