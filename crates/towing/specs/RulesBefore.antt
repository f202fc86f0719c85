-- The rules before document 02, §11, by which D was at most 2000 for every car and a sign's D was not cut; they stand in this file alone. What is
-- promised of them: "Old records and files read as a car alone, with all they held", so that they run as before. Event words are as they are: what §12
-- turned away of them is turned away here.
-- Assumes nothing.
use Rattle.std.specs.Prelude.{Bool, ◌≡◌, List, [], ◌∷◌, ◌++◌, ℕ, ◌+◌, ◌-◌, min, eqb, ltb, length, drop}
use Rattle.kit.specs.Answer.{Answer, gives, refused}
use Rattle.kit.specs.Pick.{pick}
use Rattle.event.specs.declared.Input.{Input}
use Rattle.event.specs.declared.Input.TheVariants.{Key, UpDown, ForeBack, Brake, Gas, Button, Gap, Sign, Radar}
use Rattle.event.specs.declared.Event.{Event}
use Rattle.event.specs.declared.Event.TheVariants as event
use Rattle.event.specs.Words.{read_of}
use Rattle.desired.specs.Desired.{stepped, long_held, manual_after, sign_gives}
use Rattle.car.specs.declared.Car.{Car}
use Rattle.car.specs.Car.{with_levers, with_cruise}
use Rattle.car.specs.Drive.{Driven, check_of, chosen, step_of}
use Rattle.car.specs.Figures.{shown}
use Rattle.car.specs.Lesson.{answer_of, driven, answers_of}
use Rattle.car.specs.Rules.{key_turned, while_held, with_foreback, engages, engaged, backward, brake_pressed, gas_pressed, button_pressed, gap_chosen, sign_acts, reading_taken, radar_after, hold_applies, tick_speed}
use Rattle.wire.specs.Wire.{word_at, words_of}
use Rattle.listing.specs.Listing.{refused_text}
use Rattle.exercise.specs.Exercise.{figures_line, head_text, end_text, listing_of}
use Rattle.towing.specs.ReadersBefore.{start_before, bit_3}

-- ---- the rules
-- "moved to 1..4: C = 0 gives D = min(2000, v). C = 1 gives up5 min(2000, D + 10) .. To neutral: D kept"
unfoldable pub lever_before : Car → ℕ → ℕ
lever_before c x =
    pick (eqb x 0) c.cruise.desired
    (pick c.cruise.on (stepped 2000 x c.cruise.desired)
    (min 2000 c.speed))

unfoldable pub up_down_before : Car → ℕ → Car
up_down_before c x =
    with_cruise
    (with_levers c
    (record {
      updown = x;
      foreback = c.levers.foreback;
      time = while_held c.cruise.on x c.now;
      base = while_held c.cruise.on x (lever_before c x);
    }))
    (record { on = c.cruise.on; desired = lever_before c x; manual = manual_after (lever_before c x) c.cruise.manual })

-- "D = 0 becomes min(2000, v)"
unfoldable pub forward_before : Car → Car
forward_before c = pick (engages c) (engaged c (pick (eqb c.cruise.desired 0) (min 2000 c.speed) c.cruise.desired)) c

unfoldable pub fore_back_before : Car → ℕ → Car
fore_back_before c y =
    pick (eqb y 1) (forward_before (with_foreback c y)) (pick (eqb y 2) (backward (with_foreback c y)) (with_foreback c y))

-- "200..1300 gives D = s; .. Below 200 nothing"
unfoldable pub sign_before : Car → ℕ → Car
sign_before c s =
    with_cruise c
    (record {
      on = c.cruise.on;
      desired = pick (sign_acts c) (pick (ltb s 200) c.cruise.desired (sign_gives s c.cruise.desired c.cruise.manual)) c.cruise.desired;
      manual = c.cruise.manual;
    })

-- "up5 min(2000, B + (h−1)×10) .."
unfoldable pub hold_before : Car → ℕ → ℕ
hold_before c h = pick (hold_applies c h) (long_held 2000 c.levers.updown c.levers.base h) c.cruise.desired

unfoldable pub held_before : Car → ℕ
held_before c = pick c.cruise.on (hold_before c (c.now + 1 - c.levers.time)) c.cruise.desired

unfoldable pub ticked_before : Car → Bool → Car
ticked_before c ready =
    record {
      settings = c.settings;
      key = c.key;
      levers = c.levers;
      pedals = c.pedals;
      limiter = c.limiter;
      cruise = record { on = c.cruise.on; desired = held_before c; manual = c.cruise.manual };
      radar = radar_after c ready;
      gap = c.gap;
      speed = tick_speed c (held_before c);
      now = c.now + 1;
    }

unfoldable pub input_before : Car → Input → Car
input_before c (Key position ready) = key_turned c position ready
input_before c (UpDown x) = up_down_before c x
input_before c (ForeBack y) = fore_back_before c y
input_before c (Brake x) = brake_pressed c x
input_before c (Gas x) = gas_pressed c x
input_before c (Button limit) = button_pressed c limit
input_before c (Gap tenths) = gap_chosen c tenths
input_before c (Sign s) = sign_before c s
input_before c (Radar range speed) = reading_taken c range speed

unfoldable pub event_before : Car → Event → Car
event_before c (event.Input i) = input_before c i
event_before c (event.Tick ready) = ticked_before c ready

unfoldable pub reading_before : Car → Answer Event → Car
reading_before c (refused n) = c
reading_before c (gives e) = event_before c e

-- a word driven; its checks are as they are
unfoldable pub step_before : Car → ℕ → Driven
step_before c w = chosen c (check_of c w) (reading_before c (read_of w))

-- ---- words one after the other, and an exercise file's listing
unfoldable pub driven_before : Car → List ℕ → Car
driven_before c [] = c
driven_before c (w ∷ ws) = driven_before (step_before c w).car ws

unfoldable pub answers_before : Car → List ℕ → List ℕ
answers_before c [] = []
answers_before c (w ∷ ws) = answer_of (step_before c w) ∷ answers_before (step_before c w).car ws

unfoldable pub events_before : ℕ → Car → List ℕ → List ℕ
events_before number c [] = []
events_before number c (w ∷ ws) =
    figures_line number (step_before c w).refusal (shown (step_before c w).car) ++ events_before (number + 1) (step_before c w).car ws

unfoldable pub started_before : Answer Car → List ℕ → List ℕ
started_before (gives c) bs = head_text ++ events_before 1 c (words_of bs) ++ end_text bs
started_before (refused n) bs = refused_text n

unfoldable pub listing_before : List ℕ → List ℕ
listing_before bs = pick (ltb (length bs) 4) (refused_text 17) (started_before (start_before (word_at bs 0)) (drop 4 bs))

-- ---- what is promised
-- of a good car alone and words: each goes as before
pub record AloneAsBefore (c : Car) (ws : List ℕ) : Type 0 where
  pub each : (us : List ℕ) (w : ℕ) (vs : List ℕ) → ws ≡ us ++ w ∷ vs → step_of (driven c us) w ≡ step_before (driven c us) w
  pub car : driven c ws ≡ driven_before c ws
  pub answers : answers_of c ws ≡ answers_before c ws

-- of a file: one from before, whose settings word has no bit 3, is listed as before, and the lister from before refuses any with the bit
pub record FilesAsBefore (bs : List ℕ) : Type 0 where
  pub old : bit_3 (word_at bs 0) ≡ 0 → listing_of bs ≡ listing_before bs
  pub towing : bit_3 (word_at bs 0) ≡ 1 → listing_before bs ≡ refused_text 17
