-- What holds of every clean file, as instructors ask for it: document 02, §2, of whole exercise files, sentence by sentence.
-- Assumes nothing.
use Rattle.std.specs.Prelude.{List, ◌∷◌, ◌++◌, ◌≡◌, ℕ, drop}
use Rattle.car.specs.declared.Car.{Car}
use Rattle.car.specs.Drive.{step_of}
use Rattle.car.specs.Lesson.{driven}
use Rattle.history.specs.History.{accepted_words}
use Rattle.wire.specs.Wire.{words_of}
use Rattle.exercise.specs.Exercise.{head_text, events_text, listing_of}
use Rattle.cleaning.specs.Cleaning.{clean_of, clean_refusal}

-- the words of a file behind its settings word, and those that its car accepts
abbrev pub file_words : List ℕ → List ℕ
file_words bs = words_of (drop 4 bs)

abbrev pub clean_words : Car → List ℕ → List ℕ
clean_words c bs = accepted_words c (file_words bs)

-- of a file whose settings word starts the car c
pub record CleanFile (c : Car) (bs : List ℕ) : Type 0 where
  -- "`clean` of a clean file gives the same bytes", and tells nothing
  pub again : clean_of (clean_of bs) ≡ clean_of bs
  pub again_told : clean_refusal (clean_of bs) ≡ 0
  -- "`lesson` of the clean file": the head line and a line for each accepted word, and none for a cut one;
  pub listing : listing_of (clean_of bs) ≡ head_text ++ events_text 1 c (clean_words c bs)
  -- "has no refusal in any line": none of them is refused in its place;
  pub no_refusal : (us : List ℕ) (w : ℕ) (vs : List ℕ) → clean_words c bs ≡ us ++ w ∷ vs → (step_of (driven c us) w).refusal ≡ 0
  -- "and ends in the same figures": they end in the same car as the file's own words
  pub same : driven c (clean_words c bs) ≡ driven c (file_words bs)
