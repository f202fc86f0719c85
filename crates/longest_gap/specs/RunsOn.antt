-- "A stored lesson with the choice 30 runs on: that event is refused, and every other word meets its checks on the car as it then stands": document
-- 02, §12. Of every car and every list of words.
-- Assumes nothing.
use Rattle.std.specs.Prelude.{List, [], ◌∷◌, ◌++◌, ◌≡◌, ℕ, ◌+◌, eqb}
use Rattle.kit.specs.Pick.{pick}
use Rattle.event.specs.declared.Event.TheVariants.{Input}
use Rattle.event.specs.declared.Input.TheVariants.{Gap}
use Rattle.event.specs.Words.{word_of}
use Rattle.car.specs.declared.Car.{Car}
use Rattle.car.specs.Drive.{Driven, step_of}
use Rattle.car.specs.Lesson.{answer_of, driven, answers_of, accepted_of, refused_of}

-- the word of the gap choice 30
abbrev pub choice_30 : ℕ
choice_30 = word_of (Input (Gap 30))

-- a car after its refusal
abbrev pub refused_24 : Car → Driven
refused_24 c = record { car = c; refusal = 24 }

-- that word between others, us before it and vs behind it
pub record RunsOn (c : Car) (us vs : List ℕ) : Type 0 where
  pub refused : step_of (driven c us) choice_30 ≡ refused_24 (driven c us)
  pub car : driven c (us ++ choice_30 ∷ vs) ≡ driven c (us ++ vs)
  pub answers : answers_of c (us ++ choice_30 ∷ vs) ≡ answers_of c us ++ answer_of (refused_24 (driven c us)) ∷ answers_of (driven c us) vs
  pub others : answers_of c (us ++ vs) ≡ answers_of c us ++ answers_of (driven c us) vs
  pub accepted : accepted_of c (us ++ choice_30 ∷ vs) ≡ accepted_of c (us ++ vs)
  pub refused_count : refused_of c (us ++ choice_30 ∷ vs) ≡ refused_of c (us ++ vs) + 1

-- ---- a list that may have many
unfoldable pub without : List ℕ → List ℕ
without [] = []
without (w ∷ ws) = pick (eqb w choice_30) (without ws) (w ∷ without ws)

-- of answers to a list's words, those of its other words
unfoldable pub other_answers : List ℕ → List ℕ → List ℕ
other_answers (w ∷ ws) (a ∷ as') = pick (eqb w choice_30) (other_answers ws as') (a ∷ other_answers ws as')
other_answers [] as' = []
other_answers ws [] = []

pub record WithoutThem (c : Car) (ws : List ℕ) : Type 0 where
  pub car : driven c ws ≡ driven c (without ws)
  pub answers : other_answers ws (answers_of c ws) ≡ answers_of c (without ws)
