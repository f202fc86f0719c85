-- The line of an event, from its answer word and v, is the line of the figures; the lines of a lesson, and of words after words.
-- Assumes nothing.
use Rattle.std.specs.Prelude.{Bool, true, false, List, [], ◌∷◌, ◌++◌, ◌≡◌, refl, ℕ, suc, ◌+◌, ◌-◌, ◌≤◌, ltb, length}
use Rattle.std.proofs.Common.{append_assoc, add-zero, arith, lt-ltb, le-ltb}
use Rattle.kit.specs.Pick.{pick}
use Rattle.motion.specs.Acceleration.{acceleration_code}
use Rattle.car.specs.declared.Car.{Car}
use Rattle.car.specs.Drive.{Driven, step_of}
use Rattle.car.specs.Acceleration.{acceleration_of}
use Rattle.car.proofs.AccelerationLaws.{acceleration_size, acceleration_signed}
use Rattle.car.specs.Figures.{shown}
use Rattle.answer.proofs.AnswerWordLaws.{written_read}
use Rattle.car.specs.Good.{good_of}
use Rattle.car.proofs.GoodLaws.{good_ranges}
use Rattle.car.proofs.StepLaws.{step_good}
use Rattle.car.specs.Lesson.{answering, answer_of, answers_of, driven, each_of, speed_of}
use Rattle.car.proofs.LessonLaws.{answering_fits, refusal_le}
use Rattle.car.specs.Standing.{Ranges}
use Rattle.listing.specs.Listing.{signed_of, answer_line, line_of, lines_of}
use Rattle.exercise.specs.Exercise.{acceleration_text, figures_line, events_text}

-- a's text from its code
code_text : (slows : Bool) (n : ℕ) → n ≤ 60 → (slows ≡ true → 1 ≤ n)
    → signed_of (acceleration_code (record { slows = slows; size = n })) ≡ acceleration_text (record { slows = slows; size = n })
unfolding signed_of acceleration_code acceleration_text pick
code_text true n h k =
    let c : ltb (60 - n) 60 ≡ true = lt-ltb (60 - n) 60 (omega (arith, k refl)) in
    let m : 60 - (60 - n) ≡ n = omega arith in
    rw (c, m)
code_text false n h k =
    let c : ltb (60 + n) 60 ≡ false = le-ltb (60 + n) 60 (omega arith) in
    let m : 60 + n - 60 ≡ n = omega arith in
    rw (c, m)

-- the line of an event, from its answer word and v, is the line by the figures of the car afterwards
pub line_figures : (number : ℕ) (d : Driven) → d.refusal ≤ 31 → Ranges d.car
    → line_of number (answer_of d) d.car.speed ≡ figures_line number d.refusal (shown d.car)
unfolding answer_line answer_of answering figures_line shown
line_figures number d h r =
    let a = acceleration_of d.car in
    rw (written_read (answering d) (answering_fits d h r), code_text a.slows a.size (acceleration_size d.car r) (acceleration_signed d.car))

-- ---- the lines of a lesson
-- from the answer words and speeds of a good car, with more speeds behind them or not
pub events_lines : (number : ℕ) (c : Car) (ws more : List ℕ) → good_of c ≡ true
    → lines_of number (answers_of c ws) (each_of speed_of c ws ++ more) ≡ events_text number c ws
unfolding lines_of each_of events_text
events_lines number c [] more g = refl
events_lines number c (w ∷ ws) more g =
    let after = step_good c w g in
    rw (line_figures number (step_of c w) (omega (arith, refusal_le c w)) (good_ranges _ after), events_lines (number + 1) (step_of c w).car ws more after)

-- words after words
pub events_append : (number : ℕ) (c : Car) (us vs : List ℕ)
    → events_text number c (us ++ vs) ≡ events_text number c us ++ events_text (number + length us) (driven c us) vs
unfolding events_text driven
events_append number c [] vs = rw add-zero
events_append number c (w ∷ us) vs =
    let next : number + 1 + length us ≡ number + suc (length us) = omega arith in
    rw (events_append (number + 1) (step_of c w).car us vs, next) (simp append_assoc)
