-- How the lesson's loop goes, beside the definitions: check 4 of an input, a tick by its parts, the answer of an accepted word, buffers filled as far as they
-- reach. `LessonShapeLaws` proves each equal to what it stands for.
-- Assumes nothing.
use Rattle.std.specs.Prelude.{Bool, ◌&&◌, List, [], ◌∷◌, ℕ, ◌+◌, leb, ltb}
use Rattle.kit.specs.Pick.{pick}
use Rattle.event.specs.declared.Input.{Input}
use Rattle.event.specs.Words.{input_kind, body_of, ready_of}
use Rattle.checks.specs.Checks.{key_on, tick_check}
use Rattle.car.specs.declared.Car.{Car}
use Rattle.car.specs.Drive.{Driven, step_of}
use Rattle.car.specs.Car.{with_radar}
use Rattle.car.specs.Lesson.{answer_of}
use Rattle.car.specs.Rules.{radar_tested}

-- the answer word of an accepted word that gave this car; a refused word adds its number
unfoldable pub accepted_answer : Car → ℕ
accepted_answer c = answer_of (record { refusal = 0; car = c })

-- check 4 of an input alone
unfoldable pub key_needed : Car → Input → ℕ
key_needed c i = pick (leb 4 (input_kind i) && ltb (input_kind i) 10) (key_on c.key 0) 0

-- a tick's word: check 2, then 15 and 16
unfoldable pub tick_refusal : Car → ℕ → Bool → ℕ
tick_refusal c w due = pick (leb 2 (body_of w)) 2 (tick_check c.radar.ready due c.now (ready_of (body_of w)))

-- a second passed, with D and v after it; and the radar tested then
unfoldable pub second_passed : Car → ℕ → ℕ → Car
second_passed c d v =
    record {
      settings = c.settings;
      key = c.key;
      levers = c.levers;
      pedals = c.pedals;
      limiter = c.limiter;
      cruise = record { on = c.cruise.on; desired = d; manual = c.cruise.manual };
      radar = c.radar;
      gap = c.gap;
      speed = v;
      now = c.now + 1;
    }

unfoldable pub radar_tried : Car → Bool → Car
radar_tried c ready = with_radar c (radar_tested c.radar ready c.now)

-- a number for each word into a buffer, as far as it reaches; what is past the lesson is kept
unfoldable pub over_of : (Driven → ℕ) → Car → List ℕ → List ℕ → List ℕ
over_of f c [] buffer = buffer
over_of f c (w ∷ ws) [] = []
over_of f c (w ∷ ws) (b ∷ bs) = f (step_of c w) ∷ over_of f (step_of c w).car ws bs
