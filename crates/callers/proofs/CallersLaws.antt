-- Demand 3 holds of every list of the library's calls on one record.
-- Assumes nothing.
use Rattle.std.specs.Prelude.{true, ◌≡◌, ℕ, length, Option, Some, None}
use mathlib.Core.List.{List, [], ◌∷◌, append-nil}
use Rattle.std.proofs.Math.Path.{refl, sym, ap}
use Rattle.std.proofs.Common.{◌∙◌, arith, drop_of_length-le}
use Rattle.kit.specs.Answer.{Answer, gives, refused, number_of}
use Rattle.kit.specs.Pick.{pick}
use Rattle.car.specs.declared.Car.{Car}
use Rattle.car.specs.Car.{fresh_car, settings_of, Permitted}
use Rattle.car.proofs.FreshLaws.{permitted_good}
use Rattle.car.specs.Good.{good_of}
use Rattle.car.proofs.GoodLaws.{good_test}
use Rattle.settings.specs.SettingsWord.{start_of, word_of}
use Rattle.settings.proofs.SettingsWordLaws.{permitted_written, written_started, started_written, refused_17}
use Rattle.record.specs.Layout.{packed}
use Rattle.record.proofs.LayoutLaws.{packed_length}
use Rattle.record.specs.Record.{read_of}
use Rattle.record.proofs.RecordLaws.{packed_read, good_saved}
use Rattle.record.specs.RecordLesson.{LessonLeft, lesson_left}
use Rattle.trainer.specs.Calls.{Call, word, lesson, Outcome, drove, taught, kept, outcome, car_of, given, ends}
use Rattle.trainer.proofs.Demand3Laws.{ends_append, demand_3, outcome_given}
use Rattle.car.specs.Drive.{drive_of}
use Rattle.sighting.specs.declared.Sighting.{Sighting}
use Rattle.scene.specs.SceneCalls.{heard_sight}
use Rattle.cruise.specs.Cruise.{fresh_left, drive_left, sighting_of, handed_word, see_left}
use Rattle.cruise.proofs.CruiseLaws.{see_driven, see_fault, see_refusal}
use Rattle.callers.proofs.LeftLaws.{drive_own, lesson_own}
use Rattle.callers.specs.Callers.{LibraryCall, cruise_fresh, cruise_drive, cruise_lesson, cruise_see, cruise_test, plain, left, words_after, Session, begun, going, record_call, heard_fresh, heard, heard_all, first, last, recorded, given_fresh, given_see, given_in, Calling}

-- ---- a record of twelve words and a fresh car
fresh_left_lem : (c : Car) (ws : List ℕ) → good_of c ≡ true → length ws ≡ 12 → fresh_left ws (gives c) ≡ record { refusal = 0; words = packed c }
unfolding fresh_left
fresh_left_lem c ws g l =
    let s = good_saved c ws g (omega arith) in
    rw (s.0, s.1, drop_of_length-le ws {i = 12} (omega arith), append-nil (packed c))

-- ---- the words are the record of a session's car
record Met (ws : List ℕ) (s : Session) : Type 0 where
  pub permitted : Permitted s.mode s.signs s.towing
  pub words : ws ≡ packed (last s)

last_good : (s : Session) → Permitted s.mode s.signs s.towing → good_of (last s) ≡ true
last_good s p = good_test _ (demand_3 s.mode s.signs s.towing p s.calls).standing

going_met : (s : Session) (ks : List Call) → Permitted s.mode s.signs s.towing → Met (packed (ends (last s) ks)) (going s ks)
unfolding going
going_met s ks p = record { permitted = p; words = ap packed (sym (ends_append (first s) s.calls ks)) }

one_met : (s : Session) (k : Call) → Permitted s.mode s.signs s.towing → Met (recorded (outcome (last s) k)).words (going s (k ∷ []))
unfolding recorded plain ends car_of
one_met s k p = rw (by (outcome (last s) k)) (going_met s (k ∷ []) p)
  where
    by : (o : Outcome) → (recorded o).words ≡ packed (car_of o)
    by (drove d) = refl
    by (taught t b) = refl
    by (kept x b) = refl

see_met : (s : Session) (a : Answer (Option ℕ)) → Permitted s.mode s.signs s.towing → Met (given_see s a).words (going s (heard_sight a))
unfolding given_see heard_sight plain ends
see_met s (gives (Some w)) p = one_met s (word w) p
see_met s (gives None) p = going_met s [] p
see_met s (refused n) p = going_met s [] p

-- a call of a session leaves the record of the session that goes on
given_met : (s : Session) (k : LibraryCall) → Permitted s.mode s.signs s.towing → Met (given_in s k).words (heard s k)
unfolding given_in given_fresh heard heard_fresh plain begun ends
given_met s (cruise_fresh w) p = go (start_of w) refl
  where
    go : (a : Answer Car) → start_of w ≡ a → Met (given_fresh s w a).words (heard_fresh s w a)
    go (gives c) e = record { permitted = (started_written w c e).permitted; words = refl }
    go (refused n) e = record { permitted = p; words = refl }
given_met s (cruise_drive w) p = one_met s (word w) p
given_met s (cruise_lesson events answers) p = one_met s (lesson events answers) p
given_met s (cruise_see kind metres kmh) p = see_met s (handed_word (sighting_of kind metres kmh)) p
given_met s cruise_test p = one_met s record_call p

module _ (ws : List ℕ) (s : Session) (m : Met ws s) where
  is_good : good_of (last s) ≡ true
  is_good = last_good s m.permitted

  is_read : read_of ws ≡ gives (last s)
  is_read = ap read_of m.words ∙ packed_read (last s) is_good

  is_twelve : length ws ≡ 12
  is_twelve = ap length m.words ∙ packed_length (last s)

  -- a call gives what demand 3's call gives
  test_gave : left ws cruise_test ≡ given_in s cruise_test
  unfolding left given_in recorded given number_of pick
  test_gave =
      rw is_read
      (ap (λ (x : List ℕ). plain (record { refusal = 0; words = x })) m.words
      ∙ sym (ap recorded (outcome_given (last s) record_call is_good)))

  fresh_gave : (w : ℕ) (a : Answer Car) → start_of w ≡ a → fresh_left ws a ≡ given_fresh s w a
  unfolding given_fresh fresh_left
  fresh_gave w (gives c) e =
      let t = started_written w c e in
      rw t.car (fresh_left_lem _ ws (permitted_good _ _ _ t.permitted) is_twelve)
  fresh_gave w (refused n) e = rw (refused_17 w n e, m.words)

  drive_gave : (w : ℕ) → drive_left ws (read_of ws) w ≡ record { refusal = (drive_of (last s) w).refusal; words = packed (drive_of (last s) w).car }
  unfolding drive_left
  drive_gave w = rw (is_read, drive_own ws (last s) m.words w) refl

  see_gave : (x : Answer Sighting) (a : Answer (Option ℕ)) → handed_word x ≡ a → plain (see_left ws (read_of ws) x) ≡ given_see s a
  unfolding given_see recorded outcome number_of pick
  see_gave x (gives (Some w)) h = ap plain (sym (see_driven ws x w h) ∙ drive_gave w)
  see_gave x (gives None) h = ap plain (sym (see_fault ws x h) ∙ rw (is_read, m.words) refl)
  see_gave x (refused n) h = ap plain (sym (see_refusal ws x n h) ∙ rw (is_read, m.words) refl)

  gave : (k : LibraryCall) → left ws k ≡ given_in s k
  unfolding left given_in drive_left lesson_left recorded outcome
  gave (cruise_fresh w) = ap plain (fresh_gave w (start_of w) refl)
  gave (cruise_drive w) = ap plain (drive_gave w)
  gave (cruise_lesson events answers) = rw (is_read, lesson_own ws (last s) m.words events answers) refl
  gave (cruise_see kind metres kmh) = see_gave (sighting_of kind metres kmh) _ refl
  gave cruise_test = test_gave

  after_met : (k : LibraryCall) → Met (left ws k).words (heard s k)
  after_met k = rw (gave k) (given_met s k m.permitted)

-- ---- a list of calls
all_met : (ws : List ℕ) (s : Session) (ks : List LibraryCall) → Met ws s → Met (words_after ws ks) (heard_all s ks)
unfolding words_after heard_all
all_met ws s [] m = m
all_met ws s (k ∷ ks) m = all_met (left ws k).words (heard s k) ks (after_met ws s m k)

-- the settings word of permitted settings, into a record of twelve words
begun_left : (ws : List ℕ) (mode signs towing : ℕ) → Permitted mode signs towing → length ws ≡ 12
    → left ws (cruise_fresh (word_of mode signs towing)) ≡ plain (record { refusal = 0; words = packed (fresh_car (settings_of mode signs towing)) })
unfolding left
begun_left ws mode signs towing p l =
    rw (written_started mode signs towing (word_of mode signs towing) (permitted_written mode signs towing p)) (ap plain (fresh_left_lem _ ws (permitted_good mode signs towing p) l))

begun_met : (ws : List ℕ) (mode signs towing : ℕ) → Permitted mode signs towing → length ws ≡ 12
    → Met (left ws (cruise_fresh (word_of mode signs towing))).words (begun mode signs towing)
unfolding begun ends plain
begun_met ws mode signs towing p l = record { permitted = p; words = ap (λ (x : LessonLeft). x.words) (begun_left ws mode signs towing p l) }

-- who links the library has demand 3: of every list of its calls on one record
pub callers : (words : List ℕ) (mode signs towing : ℕ) → length words ≡ 12 → Permitted mode signs towing → (ks : List LibraryCall) → Calling words mode signs towing ks
unfolding words_after plain
callers words mode signs towing l p ks = record {
  made = ap (λ (x : LessonLeft). x.refusal) (begun_left words mode signs towing p l);
  permitted = λ js ls _. (met js).permitted;
  car = λ js ls _. (met js).words;
  each = λ js k ls _. gave _ _ (met js) k;
  demand = λ js ls _. demand_3 _ _ _ (met js).permitted _;
}
  where
    met : (js : List LibraryCall) → Met (words_after (left words (cruise_fresh (word_of mode signs towing))).words js) (heard_all (begun mode signs towing) js)
    met js = all_met _ _ js (begun_met words mode signs towing p l)
