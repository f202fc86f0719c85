-- What is promised of alike cars, both such as accepted records give: document 02, §9. One word, and a list of words.
-- Assumes nothing.
use Rattle.std.specs.Prelude.{true, ◌≡◌, List, [], ◌∷◌, ℕ, ◌+◌, ◌≤◌}
use Rattle.kit.specs.Bounds.{lesson_length}
use Rattle.kit.specs.Pick.{pick}
use Rattle.event.specs.Words.{read_of}
use Rattle.car.specs.declared.Car.{Car}
use Rattle.car.specs.Drive.{reads, is_tick, drive_of}
use Rattle.car.specs.Lesson.{Taught, accepts, driven, each_of, answers_of}
use Rattle.alike.specs.Alike.{alike_of}

-- ---- one word, driven on both cars
abbrev pub Refused : Car → ℕ → Type 0
Refused c w = (drive_of c w).refusal ≡ 0 → ⊥

-- the word that is refused to one alone: a tick, with 16, at 86,400
pub record AtEnd (c : Car) (w : ℕ) : Type 0 where
  pub tick : reads is_tick (read_of w) ≡ true
  pub refusal : (drive_of c w).refusal ≡ 16
  pub clock : c.now ≡ lesson_length

pub record Together (a b : Car) (w : ℕ) : Type 0 where
  -- "one same event word that both accept or both refuse, must be alike afterwards"
  pub accepted : (drive_of a w).refusal ≡ 0 → (drive_of b w).refusal ≡ 0 → alike_of (drive_of a w).car (drive_of b w).car ≡ true
  pub refused : Refused a w → Refused b w → alike_of (drive_of a w).car (drive_of b w).car ≡ true
  -- and then with the same number
  pub number : Refused a w → Refused b w → (drive_of a w).refusal ≡ (drive_of b w).refusal
  -- "the word may be refused to one alone only when its clock stands at 86,400"
  pub first_alone : Refused a w → (drive_of b w).refusal ≡ 0 → AtEnd a w
  pub second_alone : (drive_of a w).refusal ≡ 0 → Refused b w → AtEnd b w

-- ---- a list of words, driven on both cars
-- which words are accepted: 1 or 0 for each
abbrev pub pattern : Car → List ℕ → List ℕ
pattern c ws = each_of accepts c ws

-- how many of the words are ticks, accepted or not, and whether the clock has room for them all
unfoldable pub tick_words : List ℕ → ℕ
tick_words [] = 0
tick_words (w ∷ ws) = pick (reads is_tick (read_of w)) 1 0 + tick_words ws

abbrev pub Room : Car → List ℕ → Type 0
Room c ws = c.now + tick_words ws ≤ lesson_length

pub record TogetherAll (a b : Car) (ws : List ℕ) : Type 0 where
  -- with the same words accepted: alike afterwards, and the answer words are one list
  pub alike : pattern a ws ≡ pattern b ws → alike_of (driven a ws) (driven b ws) ≡ true
  pub answers : pattern a ws ≡ pattern b ws → answers_of a ws ≡ answers_of b ws
  -- the same words are accepted while both clocks have room
  pub same_pattern : Room a ws → Room b ws → pattern a ws ≡ pattern b ws

-- what two lessons gave and left in their answer buffers: all the same, and the cars are alike behind them
pub record SameLesson (t u : Taught) (ts us : List ℕ) : Type 0 where
  pub refusal : t.refusal ≡ u.refusal
  pub accepted : t.accepted ≡ u.accepted
  pub refused : t.refused ≡ u.refused
  pub answers : ts ≡ us
  pub alike : alike_of t.car u.car ≡ true

-- in the pupils' terms: two cars marked as alike are not apart after one lesson
pub data Apart (c d : Car) : Type 0 where
  in_speed : (c.speed ≡ d.speed → ⊥) → Apart c d
  in_desired : (c.cruise.desired ≡ d.cruise.desired → ⊥) → Apart c d
