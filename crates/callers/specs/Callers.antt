-- Calls of the library on one record, one after the other, as the calls of demand 3. What a call gives is what its contract cites.
-- Assumes nothing.
use Rattle.std.specs.Prelude.{List, [], ◌∷◌, ◌++◌, ◌≡◌, ℕ, Float, Option, Some, None, replicate}
use Rattle.kit.specs.Answer.{Answer, gives, refused, number_of}
use Rattle.car.specs.declared.Car.{Car}
use Rattle.car.specs.Car.{fresh_car, settings_of, Permitted}
use Rattle.settings.specs.SettingsWord.{mode_of, signs_of, towing_of, start_of, word_of}
use Rattle.record.specs.Layout.{packed}
use Rattle.record.specs.Record.{read_of}
use Rattle.record.specs.RecordLesson.{LessonLeft, lesson_left}
use Rattle.trainer.specs.Calls.{Call, word, lesson, keep, Outcome, drove, taught, kept, outcome, ends}
use Rattle.trainer.specs.Demand3.{Demand3}
use Rattle.scene.specs.SceneCalls.{heard_sight}
use Rattle.cruise.specs.Cruise.{Left, fresh_left, drive_left, sighting_of, handed_word, see_left}

-- a call on the record, with what else it is handed: a settings word; a word; words and answer buffer; a sighting's kind and its floats
pub data LibraryCall : Type 0 where
  cruise_fresh : ℕ → LibraryCall
  cruise_drive : ℕ → LibraryCall
  cruise_lesson : List ℕ → List ℕ → LibraryCall
  cruise_see : ℕ → Float → Float → LibraryCall
  cruise_test : LibraryCall

-- what a call with no answer buffer and no counts leaves
unfoldable pub plain : Left → LessonLeft
plain l = record { refusal = l.refusal; words = l.words; answers = []; accepted = 0; refused = 0 }

-- all that a call gives and leaves, from the record's words: the contracts of `cruise_fresh`, `cruise_drive`, `cruise_lesson`, `cruise_see`, `cruise_test`
unfoldable pub left : List ℕ → LibraryCall → LessonLeft
left ws (cruise_fresh w) = plain (fresh_left ws (start_of w))
left ws (cruise_drive w) = plain (drive_left ws (read_of ws) w)
left ws (cruise_lesson events answers) = lesson_left 0 ws (read_of ws) events answers
left ws (cruise_see kind metres kmh) = plain (see_left ws (read_of ws) (sighting_of kind metres kmh))
left ws cruise_test = plain (record { refusal = number_of (read_of ws); words = ws })

-- the record's words after a list of calls
unfoldable pub words_after : List ℕ → List LibraryCall → List ℕ
words_after ws [] = ws
words_after ws (k ∷ ks) = words_after (left ws k).words ks

-- ---- the same as demand 3's calls: the settings of the last fresh car that was made, and the calls since
pub record Session : Type 0 where
  pub mode : ℕ
  pub signs : ℕ
  pub towing : ℕ
  pub calls : List Call

unfoldable pub begun : ℕ → ℕ → ℕ → Session
begun mode signs towing = record { mode = mode; signs = signs; towing = towing; calls = [] }

unfoldable pub going : Session → List Call → Session
going s ks = record { mode = s.mode; signs = s.signs; towing = s.towing; calls = s.calls ++ ks }

-- the record written and read back, which is what `cruise_test` tries
abbrev pub record_call : Call
record_call = keep (replicate 12 0)

-- a settings word that starts a car begins a new list, with its settings; one that is refused is no call of the list
unfoldable pub heard_fresh : Session → ℕ → Answer Car → Session
heard_fresh s w (gives c) = begun (mode_of w) (signs_of w) (towing_of w)
heard_fresh s w (refused n) = s

-- a sighting is what demand 3 hears of it: with an event the call of its word; a fault and one that is turned away are no call of the list
unfoldable pub heard : Session → LibraryCall → Session
heard s (cruise_fresh w) = heard_fresh s w (start_of w)
heard s (cruise_drive w) = going s (word w ∷ [])
heard s (cruise_lesson events answers) = going s (lesson events answers ∷ [])
heard s (cruise_see kind metres kmh) = going s (heard_sight (handed_word (sighting_of kind metres kmh)))
heard s cruise_test = going s (record_call ∷ [])

unfoldable pub heard_all : Session → List LibraryCall → Session
heard_all s [] = s
heard_all s (k ∷ ks) = heard_all (heard s k) ks

-- the fresh car of a session, and the car after its calls
abbrev pub first : Session → Car
first s = fresh_car (settings_of s.mode s.signs s.towing)

abbrev pub last : Session → Car
last s = ends (first s) s.calls

-- ---- what demand 3's calls give, in a session
-- the outcome of a call, with its car as a record
unfoldable pub recorded : Outcome → LessonLeft
recorded (drove d) = plain (record { refusal = d.refusal; words = packed d.car })
recorded (taught t answers) = record { refusal = t.refusal; words = packed t.car; answers = answers; accepted = t.accepted; refused = t.refused }
recorded (kept k buffer) = plain (record { refusal = k.refusal; words = packed k.car })

-- the fresh car of the word's settings, or 17 and the car as it was
unfoldable pub given_fresh : Session → ℕ → Answer Car → Left
given_fresh s w (gives c) = record { refusal = 0; words = packed (fresh_car (settings_of (mode_of w) (signs_of w) (towing_of w))) }
given_fresh s w (refused n) = record { refusal = 17; words = packed (last s) }

-- what the event's word gives; with none the car as it was, and the refusal, 0 for a fault
unfoldable pub given_see : Session → Answer (Option ℕ) → LessonLeft
given_see s (gives (Some w)) = recorded (outcome (last s) (word w))
given_see s (gives None) = plain (record { refusal = 0; words = packed (last s) })
given_see s (refused n) = plain (record { refusal = n; words = packed (last s) })

unfoldable pub given_in : Session → LibraryCall → LessonLeft
given_in s (cruise_fresh w) = plain (given_fresh s w (start_of w))
given_in s (cruise_drive w) = recorded (outcome (last s) (word w))
given_in s (cruise_lesson events answers) = recorded (outcome (last s) (lesson events answers))
given_in s (cruise_see kind metres kmh) = given_see s (handed_word (sighting_of kind metres kmh))
given_in s cruise_test = recorded (outcome (last s) record_call)

-- what holds of a list of calls on a record, which starts with a fresh car of the settings word of mode, signs and towing: words are those of the
-- record before it, of which there are twelve
pub record Calling (words : List ℕ) (mode signs towing : ℕ) (ks : List LibraryCall) : Type 0 where
  -- the fresh car is made
  pub made : (left words (cruise_fresh (word_of mode signs towing))).refusal ≡ 0
  -- after each call the record is that of the car which demand 3's calls give from a fresh car of permitted settings
  pub permitted : (js ls : List LibraryCall) → ks ≡ js ++ ls
      → Permitted (heard_all (begun mode signs towing) js).mode (heard_all (begun mode signs towing) js).signs (heard_all (begun mode signs towing) js).towing
  pub car : (js ls : List LibraryCall) → ks ≡ js ++ ls
      → words_after words (cruise_fresh (word_of mode signs towing) ∷ js) ≡ packed (last (heard_all (begun mode signs towing) js))
  -- each call gives what demand 3's call gives
  pub each : (js : List LibraryCall) (k : LibraryCall) (ls : List LibraryCall) → ks ≡ js ++ k ∷ ls
      → left (words_after words (cruise_fresh (word_of mode signs towing) ∷ js)) k ≡ given_in (heard_all (begun mode signs towing) js) k
  -- and demand 3 holds of them
  pub demand : (js ls : List LibraryCall) → ks ≡ js ++ ls
      → Demand3 (first (heard_all (begun mode signs towing) js)) (heard_all (begun mode signs towing) js).calls
