-- What holds of every clean copy: document 02, §2, sentence by sentence, of every permitted settings and every list of words.
-- Assumes nothing.
use Rattle.std.specs.Prelude.{◌≡◌, List, [], ◌∷◌, ◌++◌, ℕ, ◌≤◌, ◌<◌, length, take, drop}
use Rattle.car.specs.declared.Car.{Car}
use Rattle.car.specs.Drive.{check_of}
use Rattle.car.specs.Lesson.{driven, accepted_of, refused_of}
use Rattle.history.specs.History.{accepted_words}
use Rattle.copy.specs.Copy.{copy_of, copy_buffer}

-- us is ws with some words left out, in the same order
pub data Sub : List ℕ → List ℕ → Type 0 where
  end : Sub [] []
  kept : {us ws : List ℕ} (w : ℕ) → Sub us ws → Sub (w ∷ us) (w ∷ ws)
  left : {us ws : List ℕ} (w : ℕ) → Sub us ws → Sub us (w ∷ ws)

-- the copy of ws that a call left at the start of a buffer: as many words as it says it wrote
abbrev pub copy_in : ℕ → ℕ → ℕ → List ℕ → List ℕ → List ℕ
copy_in mode signs towing ws buffer = take (copy_of mode signs towing ws buffer).written (copy_buffer mode signs towing ws buffer)

-- `copy` is the copy of ws from the car c
pub record IsCopy (c : Car) (ws copy : List ℕ) : Type 0 where
  -- "Driving the copy refuses nothing", in all and at each place,
  pub clean : refused_of c copy ≡ 0
  pub clean_each : (us : List ℕ) (w : ℕ) (vs : List ℕ) → copy ≡ us ++ w ∷ vs → check_of (driven c us) w ≡ 0
  -- "and ends in the same car", the clock too
  pub same : driven c copy ≡ driven c ws
  -- "the accepted words, in order": some of the lesson's words, as many as it accepts
  pub words : copy ≡ accepted_words c ws
  pub sub : Sub copy ws
  pub count : length copy ≡ accepted_of c ws

-- of the settings whose fresh car is c
pub record CleanCopy (mode signs towing : ℕ) (c : Car) (ws : List ℕ) : Type 0 where
  -- the copy in every buffer that is long enough, and its number
  pub number : (buffer : List ℕ) → accepted_of c ws ≤ length buffer → copy_of mode signs towing ws buffer ≡ record { written = accepted_of c ws; refusal = 0 }
  pub copied : (buffer : List ℕ) → accepted_of c ws ≤ length buffer → IsCopy c ws (copy_in mode signs towing ws buffer)
  -- "Words past the copy keep their contents"
  pub past : (buffer : List ℕ) → accepted_of c ws ≤ length buffer → drop (accepted_of c ws) (copy_buffer mode signs towing ws buffer) ≡ drop (accepted_of c ws) buffer
  -- "Copying the copy changes nothing": the same number and the same words, in every buffer that is long enough
  pub again_number : (buffer other : List ℕ) → accepted_of c ws ≤ length buffer → accepted_of c ws ≤ length other
      → copy_of mode signs towing (copy_in mode signs towing ws buffer) other ≡ copy_of mode signs towing ws buffer
  pub again : (buffer other : List ℕ) → accepted_of c ws ≤ length buffer → accepted_of c ws ≤ length other
      → copy_in mode signs towing (copy_in mode signs towing ws buffer) other ≡ copy_in mode signs towing ws buffer
  -- "A buffer shorter than the accepted words is left untouched"
  pub short : (buffer : List ℕ) → length buffer < accepted_of c ws → copy_of mode signs towing ws buffer ≡ record { written = 0; refusal = 19 }
  pub untouched : (buffer : List ℕ) → length buffer < accepted_of c ws → copy_buffer mode signs towing ws buffer ≡ buffer
