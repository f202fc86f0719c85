-- Demand 3: what holds of every list of calls from a fresh car. One field for each sentence, in its order; the last is document 02's §4.
-- Positions in a list are said by splits: `words c ks ≡ us ++ w ∷ vs` says that w comes after us in the list's words.
-- Assumes nothing.
use Rattle.std.specs.Prelude.{true, ◌≡◌, List, [], ◌∷◌, ◌++◌, ℕ, ◌+◌, ◌≤◌, ◌<◌, length}
use Rattle.desired.specs.Desired.{held}
use Rattle.car.specs.declared.Car.{Car}
use Rattle.car.specs.Car.{ceiling_of}
use Rattle.car.specs.Distance.{visual, acoustic}
use Rattle.car.specs.Drive.{accepted_tick}
use Rattle.car.specs.Good.{lever_held}
use Rattle.car.specs.Lesson.{driven, refused_of, lesson_of}
use Rattle.car.specs.Standing.{Good}
use Rattle.history.specs.Neighbours.{Neighbouring}
use Rattle.history.specs.History.{accepted_lever, accepted_words, ticks_of, levers_of, Since, never, since}
use Rattle.history.specs.KeptDesired.{KeptDesired}
use Rattle.trainer.specs.Calls.{Call, lesson, keep, outcome, refusal_of, ends, outcomes, words, given, without_keeps, without_kept}

-- (f) "h, now − T, is the ticks accepted since the word that put L there; B is the D it left; D is the tick's formula, or B for h below 2"
pub record Held (c : Car) (s : Since) : Type 0 where
  pub ticks : c.now ≡ c.levers.time + s.ticks
  pub base : c.levers.base ≡ s.left
  pub desired : c.cruise.desired ≡ held (ceiling_of c.settings) c.levers.updown s.left s.ticks

-- (f) "the word that put L there": the last accepted word of the up-down lever among us, which leaves L where it stands after us
pub record PutThere (c : Car) (us : List ℕ) : Type 0 where
  pub before : List ℕ
  pub word : ℕ
  pub after : List ℕ
  pub split : us ≡ before ++ word ∷ after
  pub accepted : accepted_lever (driven c before) word ≡ true
  pub last : levers_of (driven c (before ++ word ∷ [])) after ≡ 0
  pub leaves : (driven c (before ++ word ∷ [])).levers.updown ≡ (driven c us).levers.updown

pub record Demand3 (c : Car) (ks : List Call) : Type 0 where
  -- "The car obeys all of document 01's standing rules (a) to (g), and did so after each word."
  -- (a) to (f), as far as one car shows them, of the last car and of the car after each word
  pub standing : Good (ends c ks)
  pub standing_each : (us vs : List ℕ) → words c ks ≡ us ++ vs → Good (driven c us)
  -- (b) and (g) of neighbouring cars
  pub neighbours : (us : List ℕ) (w : ℕ) (vs : List ℕ) → words c ks ≡ us ++ w ∷ vs
      → Neighbouring (accepted_tick (driven c us) w) (driven c us) (driven c (us ++ w ∷ []))
  -- (f) with its history, after each word
  pub held_each : (us vs : List ℕ) → words c ks ≡ us ++ vs → lever_held (driven c us) ≡ true → Held (driven c us) (since c never us)
  -- (f) there is such a word: with L out and cruise on, a word put it there
  pub held_word : (us vs : List ℕ) → words c ks ≡ us ++ vs → lever_held (driven c us) ≡ true → PutThere c us
  -- (f) from the word w that put L there: no later one among vs moved it
  pub held_since : (us : List ℕ) (w : ℕ) (vs zs : List ℕ) → words c ks ≡ us ++ w ∷ vs ++ zs
      → accepted_lever (driven c us) w ≡ true → levers_of (driven c (us ++ w ∷ [])) vs ≡ 0 → lever_held (driven c (us ++ w ∷ vs)) ≡ true
      → Held (driven c (us ++ w ∷ vs)) (record { ticks = ticks_of (driven c (us ++ w ∷ [])) vs; left = (driven c (us ++ w ∷ [])).cruise.desired })
  -- (g) "Acoustic never without visual"
  pub warnings : (us vs : List ℕ) → words c ks ≡ us ++ vs → acoustic (driven c us) ≡ true → visual (driven c us) ≡ true
  -- "It is the car that document 01's checks and rules give word by word,"
  pub car : ends c ks ≡ driven c (words c ks)
  -- "and every refusal, count and answer word is the one that they give": each call's whole outcome, from the car of the words before it
  pub each_outcome : (js : List Call) (k : Call) (ls : List Call) → ks ≡ js ++ k ∷ ls
      → outcome (ends c js) k ≡ given (driven c (words c js)) k
  -- 18 never; 19 exactly when the answers do not fit, and 20 exactly when the buffer is under twelve words
  pub never_18 : (js : List Call) (k : Call) (ls : List Call) → ks ≡ js ++ k ∷ ls → refusal_of (outcome (ends c js) k) ≡ 18 → ⊥
  pub lesson_short : (js : List Call) (ws buffer : List ℕ) (ls : List Call) → ks ≡ js ++ lesson ws buffer ∷ ls
      → length buffer < length ws → refusal_of (outcome (ends c js) (lesson ws buffer)) ≡ 19
  pub lesson_fits : (js : List Call) (ws buffer : List ℕ) (ls : List Call) → ks ≡ js ++ lesson ws buffer ∷ ls
      → length ws ≤ length buffer → refusal_of (outcome (ends c js) (lesson ws buffer)) ≡ 0
  pub record_short : (js : List Call) (buffer : List ℕ) (ls : List Call) → ks ≡ js ++ keep buffer ∷ ls
      → length buffer < 12 → refusal_of (outcome (ends c js) (keep buffer)) ≡ 20
  pub record_fits : (js : List Call) (buffer : List ℕ) (ls : List Call) → ks ≡ js ++ keep buffer ∷ ls
      → 12 ≤ length buffer → refusal_of (outcome (ends c js) (keep buffer)) ≡ 0
  -- "It is also the car that the accepted words alone give from the same fresh one, and none of those is refused then."
  pub alone : ends c ks ≡ driven c (accepted_words c (words c ks))
  pub none_refused : refused_of c (accepted_words c (words c ks)) ≡ 0
  -- "In every lesson that ran, accepted plus refused equals its words."
  pub counts : (js : List Call) (ws buffer : List ℕ) (ls : List Call) → ks ≡ js ++ lesson ws buffer ∷ ls → (lesson_of (ends c js) ws buffer).refusal ≡ 0
      → (lesson_of (ends c js) ws buffer).accepted + (lesson_of (ends c js) ws buffer).refused ≡ length ws
  -- "The car's clock equals the accepted ticks of the whole list."
  pub clock : (ends c ks).now ≡ ticks_of c (words c ks)
  -- "The same list without its record calls ends in the same car, and its other calls give the same refusals, answer words and counts."
  pub without_car : ends c (without_keeps ks) ≡ ends c ks
  pub without_outcomes : outcomes c (without_keeps ks) ≡ without_kept (outcomes c ks)
  -- document 02, §4, after each word: D is "whatever the last lever, sign or hold rule left, or 0 with none since the key"
  pub desired_each : (us vs : List ℕ) → words c ks ≡ us ++ vs → KeptDesired c us
