-- What each way through the functions of this crate leaves, by what the calls on it give.
-- Assumes nothing.
use mathlib.Core.Bool.{Bool, true, false, ◌||◌}
use mathlib.Core.List.{List, [], ◌++◌}
use mathlib.Core.Path.{◌≡◌, refl, sym, ap, ◌∙◌}
use Prim.Native.Nat.{ℕ, ◌+◌, ◌-◌, ◌*◌, ◌≤◌, ◌<◌}
use native.Mathlib.Nat.{zero-add}
use native.Mathlib.Omega.{arith}
use borrow.Author.Tests.{le-ltb, lt-ltb}
use lib.Dec.{ltb}
use lib.ListN.{length, take, drop, length-append, length-take, length-drop, drop_of_length-le}
use lib.Seq.{take_at, take_all, drop_at, drop-drop}
use Rattle.std.specs.Prelude.{Ok}
use Rattle.std.proofs.Common.{append_assoc, append-nil}
use Rattle.kit.specs.Answer.{Answer}
use Rattle.kit.specs.Placed.{placed, placed_nothing, placed_first}
use Rattle.kit.specs.Pick.{pick_true, pick_false, pick_case, or_left, or_right, or_neither, not_of_false}
use Rattle.car.specs.declared.Car.{Car}
use Rattle.car.specs.Drive.{Driven}
use Rattle.car.specs.declared.lesson.Taught as lesson
use Rattle.car.specs.Lesson.{Taught, lesson_answer, untaught, driven, answer_of, answers_of, each_of, speed_of, taught_of, trace_short, trace_of, trace_after}
use Rattle.car.specs.Good.{good_of}
use Rattle.car.proofs.LessonLaws.{each_length}
use Rattle.settings.specs.SettingsWord.{start_of}
use Rattle.wire.specs.Wire.{word_at, words_of, words_count, words_after}
use Rattle.wire.proofs.WireLaws.{words_taken}
use Rattle.listing.specs.Listing.{lines_of, refused_text, put_past, put_after, lines_refused, lines_past, lines_after}
use Rattle.listing.proofs.ListingLaws.{put_room}
use Rattle.exercise.specs.declared.Place.{Place}
use Rattle.exercise.specs.declared.Stage.{Stage}
use Rattle.exercise.specs.declared.Stage.TheVariants.{Awaited, Driving}
use Rattle.exercise.specs.declared.Turned.{Turned}
use Rattle.exercise.specs.Exercise.{head_text, events_text}
use Rattle.exercise.proofs.ExerciseLaws.{events_lines}
use Rattle.exercise.proofs.PiecesLaws.{runs}
use Rattle.exercise.specs.Pieces.{Turn, idle, driven_turn, stuck, words_turn, events_turn, headed, started_turn, turn_of, close_text, turn_in, close_in, answered_at}

-- ---- nothing is done
pub undone : (out : List ℕ) {t : Turn} (s : Stage) {r : Turned} → t ≡ idle s → r ≡ answered_at 0 (idle s)
    → (r ≡ answered_at 0 t) × (out ≡ placed out 0 t.text)
unfolding idle
undone out s e f = rw e (f, sym (placed_nothing out 0))

-- ---- a text put from index 0 on
pub text_put : (out : List ℕ) (most : ℕ) (text : List ℕ) {after : List ℕ} {end : ℕ} → most ≤ length out → (end ≡ put_past out 0 most text) × (after ≡ put_after out 0 most text)
    → (end ≡ length text) × (after ≡ placed out 0 text)
text_put out most text h e = let p = put_room out 0 most text (omega arith) in (e.0 ∙ p.0 ∙ zero-add _, e.1 ∙ p.1)

-- ---- words driven
module _ (p : Place) (ws out a₀ v₀ : List ℕ) (few : length ws ≤ 1024) (la : length a₀ ≡ 1024) (lv : length v₀ ≡ 1024) where
  abbrev c : Car
  c = p.car

  short : trace_short ws a₀ v₀ ≡ false
  unfolding trace_short
  short = or_neither _ _ (le-ltb (length a₀) (length ws) (omega arith)) (le-ltb (length v₀) (length ws) (omega arith))

  ran : good_of c ≡ true → trace_of c ws a₀ v₀ ≡ taught_of c ws
  unfolding trace_of
  ran good = pick_true _ _ _ good ∙ pick_false _ _ _ short

  not_run : good_of c ≡ false → trace_of c ws a₀ v₀ ≡ untaught c 18
  unfolding trace_of
  not_run bad = pick_false _ _ _ bad

  -- with room for the answers a lesson tells by its refusal whether the car is good
  module _ (t : Taught) (te : t ≡ trace_of c ws a₀ v₀) where
    good_by : (b : Bool) → good_of c ≡ b → t.refusal ≡ 0 → good_of c ≡ true
    unfolding untaught
    good_by true e z = e
    good_by false e z = let n : t.refusal ≡ 18 = ap (λ (u : Taught). u.refusal) (te ∙ not_run e) in absurd (omega (arith, n, z))

    pub bad_by : (b : Bool) → good_of c ≡ b → 1 ≤ t.refusal → good_of c ≡ false
    unfolding taught_of
    bad_by true e z = let n : t.refusal ≡ 0 = ap (λ (u : Taught). u.refusal) (te ∙ ran e) in absurd (omega (arith, n, z))
    bad_by false e z = e

  module _ (good : good_of c ≡ true) where
    left : (f : Driven → ℕ) (buffer : List ℕ) → trace_after f c ws (trace_short ws a₀ v₀) buffer ≡ each_of f c ws ++ drop (length ws) buffer
    unfolding trace_after
    left f buffer = pick_true _ _ _ good ∙ pick_false _ _ _ short

    answers : {a : List ℕ} → a ≡ trace_after answer_of c ws (trace_short ws a₀ v₀) a₀ → take (length ws) a ≡ answers_of c ws
    answers ae = rw (ae ∙ left answer_of a₀) (take_at (answers_of c ws) _ (length ws) (each_length answer_of c ws))

    abbrev speeds : List ℕ
    speeds = each_of speed_of c ws ++ drop (length ws) v₀

    -- their lines
    lined : p.number + length ws ≤ 18446744073709551615 → 65536 ≤ length out
        → (lines_past out 0 p.number (answers_of c ws) speeds ≡ 0 + length (events_text p.number c ws))
        × (lines_after out 0 p.number (answers_of c ws) speeds ≡ placed out 0 (events_text p.number c ws))
    unfolding lines_past lines_after lines_refused
    lined fits room =
        let q = put_room out 0 (64 * length (answers_of c ws)) (lines_of p.number (answers_of c ws) speeds) (omega (arith, count)) in
        let e = events_lines p.number c ws (drop (length ws) v₀) good in
        (pick_false _ _ _ free ∙ q.0 ∙ rw e, pick_false _ _ _ free ∙ q.1 ∙ rw e)
      where
        count : length (answers_of c ws) ≡ length ws
        count = each_length answer_of c ws

        vs : length (answers_of c ws) ≤ length speeds
        vs = simp length-append (omega (arith, count, each_length speed_of c ws))

        free : (ltb 18446744073709551615 (p.number + length (answers_of c ws)) || ltb (length speeds) (length (answers_of c ws))) ≡ false
        free = or_neither _ _ (le-ltb _ (p.number + length (answers_of c ws)) (omega (arith, count))) (le-ltb _ _ vs)

  pub drove : {taught : lesson.Taught} {a v : List ℕ} {number end : ℕ} {after : List ℕ} → p.number + length ws ≤ 18446744073709551615 → number ≡ p.number + length ws → 65536 ≤ length out
      → lesson_answer c (Ok taught) ≡ trace_of c ws a₀ v₀ → a ≡ trace_after answer_of c ws (trace_short ws a₀ v₀) a₀ → v ≡ trace_after speed_of c ws (trace_short ws a₀ v₀) v₀
      → end ≡ lines_past out 0 p.number (take (length ws) a) v → after ≡ lines_after out 0 p.number (take (length ws) a) v
      → (◌≡◌ {A = Turned} (record { stage = Driving (record { car = taught.car; number = number }); used = 4 * length ws; end = end }) (answered_at 0 (words_turn p ws)))
      × (after ≡ placed out 0 (words_turn p ws).text)
  unfolding answered_at driven_turn taught_of
  drove {taught} fits ne room te ae ve ee fe =
      let good = good_by _ te (good_of c) refl refl in
      let car : taught.car ≡ driven c ws = ap (λ (t : Taught). t.car) (te ∙ ran good) in
      let l = lined good fits room in
      rw (runs p ws fits good, car, ne, ee, fe, answers good ae, ve ∙ left good speed_of v₀, l.0, l.1) (refl, refl)

-- the words of some bytes, up to 1,024
pub words_cut : (bs z : List ℕ) → length z ≡ 1024 → {n : ℕ} {ws : List ℕ} → n ≡ words_count bs z → ws ≡ words_after bs z → take n ws ≡ take 1024 (words_of bs)
words_cut bs z l {n} {ws} e f = let whole : n - 0 ≡ n = omega arith in ap (λ i. take i ws) (sym whole) ∙ words_taken bs z l e f

-- ---- whether they are driven
module _ (p : Place) (ws : List ℕ) where
  pub numbers_pass : 18446744073709551615 < p.number + length ws → words_turn p ws ≡ idle (Driving p)
  unfolding words_turn stuck
  numbers_pass h = pick_true _ _ _ (or_left _ _ (lt-ltb _ _ h))

  pub not_good : good_of p.car ≡ false → words_turn p ws ≡ idle (Driving p)
  unfolding words_turn stuck
  not_good h = pick_true (stuck p ws) _ _ (or_right (ltb 18446744073709551615 (p.number + length ws)) _ (not_of_false _ h))

-- ---- the head line, and the events behind it
pub headed_put : (out : List ℕ) (t : Turn) {one after : List ℕ} {head : ℕ} {r : Turned} → 65600 ≤ length out
    → (head ≡ length head_text) × (head ≤ 64) × (one ≡ placed out 0 head_text) → (r ≡ answered_at 0 t) × (after ≡ placed (take (length one - head) (drop head one)) 0 t.text)
    → (◌≡◌ {A = Turned} (record { stage = r.stage; used = 4 + r.used; end = head + r.end }) (answered_at 0 (headed t)))
    × (take head one ++ (after ++ drop (length one - head) (drop head one)) ≡ placed out 0 (headed t).text)
unfolding answered_at headed
headed_put out t {one} {after} {head} l h e =
    let rest : List ℕ = drop (length head_text) out in
    let whole : one ≡ head_text ++ rest = h.2 ∙ placed_first out head_text in
    let front : take head one ≡ head_text = rw whole (take_at head_text rest head (sym h.0)) in
    let back : drop head one ≡ rest = rw whole (drop_at head_text rest head (sym h.0)) in
    let n = length one - head in
    let size : length rest ≡ n = rw whole (omega (arith, h.0, length-append head_text rest)) in
    let all : take n rest ≡ rest = take_all n rest (omega (arith, size)) in
    let none : drop n rest ≡ [] = drop_of_length-le rest {i = n} (omega (arith, size)) in
    let more : drop (length t.text) rest ≡ drop (length (head_text ++ t.text)) out = drop-drop (length t.text) (length head_text) out ∙ ap (λ i. drop i out) (sym (length-append head_text t.text)) in
    let text : after ≡ t.text ++ drop (length (head_text ++ t.text)) out = (rw (back, all) at e.1) ∙ placed_first rest t.text ∙ ap (λ bs. t.text ++ bs) more in
    let past : head + (0 + length t.text) ≡ 0 + length (head_text ++ t.text) = omega (arith, h.0, length-append head_text t.text) in
    (rw (e.0, past) refl, rw (front, back, none, text, append-nil) (sym (placed_first out (head_text ++ t.text) ∙ append_assoc head_text t.text _)))

-- a turn uses at most 4,096 bytes
pub used_le : (p : Place) (bs : List ℕ) {r : Turned} → r ≡ answered_at 0 (events_turn p bs) → r.used ≤ 4096
unfolding answered_at events_turn words_turn idle driven_turn
used_le p bs e = rw e (pick_case (λ (t : Turn). t.used ≤ 4096) (stuck p (take 1024 (words_of bs))) _ _ (λ _. omega arith) (λ _. omega (arith, length-take 1024 (words_of bs))))

-- ---- the settings word
module _ (bs : List ℕ) where
  pub few_bytes : length bs < 4 → turn_of Awaited bs ≡ idle Awaited
  unfolding turn_of
  few_bytes h = pick_true _ _ _ (lt-ltb _ _ h)

  pub started : (a : Answer Car) → 4 ≤ length bs → start_of (word_at bs 0) ≡ a → turn_of Awaited bs ≡ started_turn a bs
  unfolding turn_of
  started a h e = pick_false _ _ _ (le-ltb _ _ h) ∙ ap (λ (x : Answer Car). started_turn x bs) e

  -- what the events are lent
  pub rest_whole : take (length bs - 4) (drop 4 bs) ≡ drop 4 bs
  rest_whole = take_all (length bs - 4) (drop 4 bs) (omega (arith, length-drop 4 bs))

-- a text from index 0 on
pub answered : (s : Stage) (used : ℕ) (text : List ℕ) {end : ℕ} → end ≡ length text
    → ◌≡◌ {A = Turned} (record { stage = s; used = used; end = end }) (answered_at 0 (record { stage = s; used = used; text = text }))
unfolding answered_at
answered s used text e = rw (e, zero-add)

-- ---- room for the text
module _ (out : List ℕ) (s : Stage) where
  pub turn_short : (bs : List ℕ) → length out < 65600 → turn_in out s bs ≡ idle s
  unfolding turn_in
  turn_short bs h = pick_true _ _ _ (lt-ltb _ _ h)

  pub turn_room : (bs : List ℕ) → 65600 ≤ length out → turn_in out s bs ≡ turn_of s bs
  unfolding turn_in
  turn_room bs h = pick_false _ _ _ (le-ltb _ _ h)

  pub close_short : (held : ℕ) → length out < 65600 → (0 ≡ length (close_in out s held)) × (out ≡ placed out 0 (close_in out s held))
  unfolding close_in
  close_short held h = let none : close_in out s held ≡ [] = pick_true _ _ _ (lt-ltb _ _ h) in rw none (refl, sym (placed_nothing out 0))

  close_room : (held : ℕ) → 65600 ≤ length out → close_in out s held ≡ close_text s held
  unfolding close_in
  close_room held h = pick_false _ _ _ (le-ltb _ _ h)

  -- the end of a file that has none
  pub close_none : (held : ℕ) → close_text s held ≡ [] → (0 ≡ length (close_in out s held)) × (out ≡ placed out 0 (close_in out s held))
  unfolding close_in
  close_none held e =
      let none : close_in out s held ≡ [] = pick_case (λ (text : List ℕ). text ≡ []) (ltb (length out) 65600) _ _ (λ _. refl) (λ _. e) in
      rw none (refl, sym (placed_nothing out 0))

  -- the end that is a refusal
  pub close_refused : (held : ℕ) (n : ℕ) {after : List ℕ} {end : ℕ} → 65600 ≤ length out → close_text s held ≡ refused_text n
      → (end ≡ put_past out 0 29 (refused_text n)) × (after ≡ put_after out 0 29 (refused_text n)) → (end ≡ length (close_in out s held)) × (after ≡ placed out 0 (close_in out s held))
  close_refused held n h e p = rw (close_room held h, e) (text_put out 29 (refused_text n) (omega arith) p)
