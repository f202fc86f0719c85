-- Which lists are accepted ticks: those of which every word counts as one; and where there are such: exactly where the clock has room for them, so that
-- the promise is not an empty one.
-- Assumes nothing.
use Rattle.std.specs.Prelude.{Bool, true, false, ◌≡◌, ◌↔◌, refl, List, [], ◌∷◌, ℕ, zero, suc, ◌+◌, ◌≤◌, length, replicate}
use Rattle.std.specs.Bool.{beq}
use Rattle.std.proofs.Common.{arith}
use Rattle.std.proofs.lemmas.Bool.{lt-leb}
use Rattle.kit.specs.Answer.{gives}
use Rattle.kit.specs.Bounds.{lesson_length}
use Rattle.kit.specs.Pick.{pick, pick_true, pick_false, pick_case, pick_le, either}
use Rattle.event.specs.declared.Event.TheVariants as event
use Rattle.event.specs.Words.{read_of, in_range, word_of}
use Rattle.event.proofs.WordLaws.{word_read}
use Rattle.checks.specs.Checks.{tick_check}
use Rattle.car.specs.declared.Car.{Car}
use Rattle.car.specs.declared.RangeRadar.{RangeRadar}
use Rattle.car.specs.Checks.{event_check}
use Rattle.car.specs.Drive.{event_next, reading_check, check_of, reading_next, next_of, chosen, step_of, reads, is_tick, accepted_tick}
use Rattle.car.specs.Good.{good_of}
use Rattle.car.proofs.GoodLaws.{good}
use Rattle.car.specs.Lesson.{driven}
use Rattle.car.proofs.LessonLaws.{driven_good}
use Rattle.car.specs.Rules.{test_due, radar_tested, radar_after, ticked}
use Rattle.history.specs.History.{ticks_of}
use Rattle.history.proofs.HistoryLaws.{now_all}
use Rattle.settling.specs.Settling.{AcceptedTicks}

-- ---- all words of the list are among its accepted ticks, by the count that the clock goes by
at_most_all : (c : Car) (ws : List ℕ) → ticks_of c ws ≤ length ws
unfolding ticks_of
at_most_all c [] = omega arith
at_most_all c (w ∷ ws) =
    omega (arith, pick_le (accepted_tick c w) 1 0 1 (omega arith) (omega arith), at_most_all (step_of c w).car ws)

all_count : (c : Car) (ws : List ℕ) → AcceptedTicks c ws → ticks_of c ws ≡ length ws
unfolding ticks_of AcceptedTicks
all_count c [] t = refl
all_count c (w ∷ ws) t = omega (arith, pick_true {A = ℕ} (accepted_tick c w) 1 0 t.0, all_count (step_of c w).car ws t.1)

count_all : (c : Car) (ws : List ℕ) → ticks_of c ws ≡ length ws → AcceptedTicks c ws
unfolding ticks_of AcceptedTicks
count_all c [] e = tt
count_all c (w ∷ ws) e =
    let m = at_most_all (step_of c w).car ws in
    either (accepted_tick c w)
    (λ t. (t, count_all (step_of c w).car ws (omega (arith, e, m, pick_true {A = ℕ} (accepted_tick c w) 1 0 t))))
    (λ t. absurd (omega (arith, e, m, pick_false {A = ℕ} (accepted_tick c w) 1 0 t)))

pub ticks_exactly : (c : Car) (ws : List ℕ) → AcceptedTicks c ws ↔ (ticks_of c ws ≡ length ws)
ticks_exactly c ws = (all_count c ws, count_all c ws)

-- ---- a list of 64 begins at 86,336 at the latest
pub room : (c : Car) (ws : List ℕ) → good_of c ≡ true → AcceptedTicks c ws → c.now + length ws ≤ lesson_length
room c ws g t = omega (arith, now_all c ws g, all_count c ws t, (good (driven c ws) (driven_good c ws g)).ranges.now)

-- ---- ticks with the car's own ready bit
tick_taken : (c : Car) (w : ℕ) (ready : Bool) → read_of w ≡ gives (event.Tick ready) → c.radar.ready ≡ ready → c.now + 1 ≤ lesson_length
    → (accepted_tick c w ≡ true) × ((step_of c w).car ≡ ticked c ready)
unfolding step_of check_of next_of reading_check reading_next event_check event_next tick_check chosen reads is_tick pick
tick_taken c w ready r e h = rw (r, e, same ready, lt-leb lesson_length c.now (omega arith)) (refl, refl)
  where
    same : (b : Bool) → beq b b ≡ true
    same true = refl
    same false = refl

ready_kept : (c : Car) (ready : Bool) → c.radar.ready ≡ ready → (radar_after c ready).ready ≡ ready
unfolding radar_after radar_tested
ready_kept c ready e = pick_case (λ (r : RangeRadar). r.ready ≡ ready) (test_due c) _ _ (λ _. refl) (λ _. e)

ticks_taken : (n : ℕ) (c : Car) (ready : Bool) → c.radar.ready ≡ ready → c.now + n ≤ lesson_length → AcceptedTicks c (replicate n (word_of (event.Tick ready)))
unfolding AcceptedTicks ticked in_range
ticks_taken zero c ready e h = tt
ticks_taken (suc n) c ready e h =
    let k = tick_taken c (word_of (event.Tick ready)) ready (word_read (event.Tick ready) refl) e (omega arith) in
    (k.0, rw k.1 (ticks_taken n (ticked c ready) ready (ready_kept c ready e) (omega arith)))

pub ticks_there : (c : Car) → c.now ≤ 86336 → AcceptedTicks c (replicate 64 (word_of (event.Tick c.radar.ready)))
ticks_there c h = ticks_taken 64 c c.radar.ready refl (omega arith)
