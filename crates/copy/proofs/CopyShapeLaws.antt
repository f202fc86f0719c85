-- The words whose answers hold no refusal are the accepted ones; and the next of them.
-- Assumes nothing.
use Rattle.std.specs.Prelude.{true, List, [], ◌∷◌, ◌++◌, ◌≡◌, refl, ℕ, ◌+◌, ◌<◌, length, drop, get_or}
use Rattle.std.proofs.Common.{add-one, drop-cons}
use Rattle.kit.specs.Pick.{pick}
use Rattle.answer.specs.AnswerWord.{read_of}
use Rattle.car.specs.declared.Car.{Car}
use Rattle.car.proofs.AnswerLaws.{step_shows}
use Rattle.car.specs.Drive.{step_of}
use Rattle.car.specs.Good.{good_of}
use Rattle.car.specs.Lesson.{each_of, answers_of}
use Rattle.car.proofs.StepLaws.{step_good, step_refusal}
use Rattle.history.specs.History.{accepted_words}
use Rattle.history.proofs.AcceptedLaws.{by_word}
use Rattle.copy.specs.CopyShape.{sifted_word, sifted}

-- the answers may stand in a longer buffer
pub sifted_accepted : (c : Car) (ws more : List ℕ) → good_of c ≡ true → sifted ws (answers_of c ws ++ more) ≡ accepted_words c ws
unfolding sifted sifted_word accepted_words each_of read_of pick
sifted_accepted c [] more g = refl
sifted_accepted c (w ∷ ws) more g =
    let i = sifted_accepted (step_of c w).car ws more (step_good c w g) in
    by_word c w
    (λ t a r. rw ((step_shows c w g).refusal, step_refusal c w, t, i))
    (λ t a r k. rw ((step_shows c w g).refusal, step_refusal c w, t, i))

-- at an index
pub sifted_next : (ws answers : List ℕ) (i : ℕ) → i < length ws → i < length answers
    → sifted (drop i ws) (drop i answers) ≡ sifted_word (get_or ws i 0) (get_or answers i 0) ++ sifted (drop (i + 1) ws) (drop (i + 1) answers)
unfolding sifted
sifted_next ws answers i h k = rw (add-one, drop-cons ws i 0 h, drop-cons answers i 0 k)
