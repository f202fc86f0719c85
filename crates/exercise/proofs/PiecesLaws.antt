-- The pieces of a file, in order, give the listing of the whole file, wherever it is cut.
-- Assumes nothing.
use Rattle.std.specs.Prelude.{Bool, true, false, List, [], ◌∷◌, ◌++◌, ◌≡◌, refl, ℕ, ◌+◌, ◌*◌, ◌/◌, ◌%◌, ◌^◌, ◌≤◌, ◌<◌, eqb, ltb, length, take, drop}
use Rattle.std.proofs.Common.{append_assoc, append-nil, sym, ap, ◌∙◌, arith, le-ltb, lt-ltb, ltb-true, ltb-false, length-append, length-take, length-drop, take_all, drop-drop}
use Rattle.std.proofs.lemmas.List.{drop-append-le}
use Rattle.kit.specs.Answer.{Answer, gives, refused}
use Rattle.kit.specs.Pick.{pick, pick_true, pick_false, pick_case, or_neither, not_of_true}
use Rattle.car.specs.declared.Car.{Car}
use Rattle.car.specs.Good.{good_of}
use Rattle.car.specs.Lesson.{driven}
use Rattle.car.proofs.LessonLaws.{driven_good}
use Rattle.settings.specs.SettingsWord.{start_of}
use Rattle.settings.proofs.SettingsWordLaws.{started_good}
use Rattle.wire.specs.Wire.{word_at, words_of}
use Rattle.wire.proofs.WireLaws.{first_kept, words_length, words_parts, few_words}
use Rattle.listing.specs.Listing.{refused_text}
use Rattle.kit.specs.Placed.{placed}
use Rattle.exercise.specs.declared.Place.{Place}
use Rattle.exercise.specs.declared.Stage.{Stage}
use Rattle.exercise.specs.declared.Stage.TheVariants.{Awaited, Driving, Ended}
use Rattle.exercise.specs.declared.Turned.{Turned}
use Rattle.exercise.specs.Exercise.{head_text, events_text, end_text, lesson_text, started_text, listing_of}
use Rattle.exercise.proofs.ExerciseLaws.{events_append}
use Rattle.exercise.specs.Pieces.{Turn, idle, driven_turn, stuck, words_turn, events_turn, headed, started_turn, turn_of, cut_text, close_text, pieces_text, whole, Short, turn_in, answered_at}

-- a good car is driven
pub runs : (p : Place) (ws : List ℕ) → p.number + length ws ≤ 18446744073709551615 → good_of p.car ≡ true → words_turn p ws ≡ driven_turn p ws
unfolding words_turn stuck
runs p ws h g = pick_false _ _ _ (or_neither _ _ (le-ltb _ _ h) (not_of_true _ g))

-- by all the words of some bytes
events_all : (p : Place) (bs : List ℕ) → p.number + length bs / 4 ≤ 18446744073709551615 → length bs ≤ 4099 → good_of p.car ≡ true
    → events_turn p bs ≡ driven_turn p (words_of bs)
unfolding events_turn
events_all p bs h few g =
    let n = words_length bs in
    ap (words_turn p) (take_all 1024 (words_of bs) (omega (arith, n))) ∙ runs p (words_of bs) (omega (arith, n)) g

-- ---- after refused settings
ended : (held : List ℕ) (ps : List (List ℕ)) → pieces_text Ended held ps ≡ []
unfolding pieces_text turn_of close_text
ended held [] = refl
ended held (p ∷ ps) = ended _ ps

-- ---- what is kept of some bytes for the next turn, and the end of the file by it
abbrev pub kept : List ℕ → List ℕ
kept bs = drop (4 * (length bs / 4)) bs

pub kept_few : (bs : List ℕ) → length (kept bs) ≤ 3
kept_few bs = omega (arith, length-drop (4 * (length bs / 4)) bs)

pub kept_size : (bs more : List ℕ) → length (kept bs ++ more) % 4 ≡ length (bs ++ more) % 4
kept_size bs more = omega (arith, length-append (kept bs) more, length-drop (4 * (length bs / 4)) bs, length-append bs more)

end_rest : (bs more : List ℕ) → end_text (kept bs ++ more) ≡ end_text (bs ++ more)
unfolding end_text
end_rest bs more = ap (λ n. pick (eqb n 0) [] (refused_text 21)) (kept_size bs more)

-- ---- events
-- the text of events to the end of the file
abbrev rest_text : Place → List ℕ → List ℕ
rest_text p bs = events_text p.number p.car (words_of bs) ++ end_text bs

-- where the lesson stands after the words of some bytes
abbrev further : Place → List ℕ → Place
further p bs = record { car = driven p.car (words_of bs); number = p.number + length (words_of bs) }

rest_parts : (p : Place) (bs more : List ℕ) → events_text p.number p.car (words_of bs) ++ rest_text (further p bs) (kept bs ++ more) ≡ rest_text p (bs ++ more)
rest_parts p bs more =
    rw (words_parts bs more, events_append p.number p.car (words_of bs) (words_of (kept bs ++ more)), end_rest bs more) (simp append_assoc)

-- the text of a turn over some bytes, and of the pieces behind them
abbrev turn_text : Turn → List ℕ → List (List ℕ) → List ℕ
turn_text t bs ps = t.text ++ pieces_text t.stage (drop t.used bs) ps

-- one turn, from what the turns behind it give
driving_turn : (p : Place) (bs : List ℕ) (ps : List (List ℕ)) → good_of p.car ≡ true → length bs ≤ 4099 → p.number + length bs / 4 ≤ 18446744073709551615
    → pieces_text (Driving (further p bs)) (kept bs) ps ≡ rest_text (further p bs) (kept bs ++ whole ps) → turn_text (events_turn p bs) bs ps ≡ rest_text p (bs ++ whole ps)
unfolding driven_turn
driving_turn p bs ps g few n behind =
    ap (λ (t : Turn). turn_text t bs ps) (events_all p bs n few g) ∙ ap (λ ts. events_text p.number p.car (words_of bs) ++ ts) (same ∙ behind) ∙ rest_parts p bs (whole ps)
  where
    same : pieces_text (Driving (further p bs)) (drop (4 * length (words_of bs)) bs) ps ≡ pieces_text (Driving (further p bs)) (kept bs) ps
    same = ap (λ k. pieces_text (Driving (further p bs)) (drop (4 * k) bs) ps) (words_length bs)

driving : (p : Place) (held : List ℕ) (ps : List (List ℕ)) → good_of p.car ≡ true → length held ≤ 3 → Short ps
    → p.number + length (held ++ whole ps) / 4 ≤ 18446744073709551615 → pieces_text (Driving p) held ps ≡ rest_text p (held ++ whole ps)
unfolding pieces_text close_text cut_text whole turn_of events_text end_text
driving p held [] g h s n = let all : length held ≡ length held % 4 = omega arith in rw (append-nil, few_words held h, ← all)
driving p held (q ∷ ps) g h s n =
    let bs : List ℕ = held ++ q in
    let l = length-append held q in
    let m = length-append held (q ++ whole ps) in
    let m' = length-append q (whole ps) in
    let k = length-append (kept bs) (whole ps) in
    let k' = length-drop (4 * (length bs / 4)) bs in
    let w = words_length bs in
    driving_turn p bs ps g (omega (arith, l, s.0)) (omega (arith, l, m, m')) (driving (further p bs) (kept bs) ps (driven_good _ _ g) (kept_few bs) s.1 (omega (arith, l, m, m', k, k', w)))
    ∙ ap (rest_text p) (append_assoc held q (whole ps))

-- ---- from the start
-- the turn in which the settings word is whole
started_turn_lem : (a : Answer Car) (bs : List ℕ) (ps : List (List ℕ)) → start_of (word_at bs 0) ≡ a → 4 ≤ length bs → length bs ≤ 4099 → Short ps → length (bs ++ whole ps) < 2 ^ 64
    → turn_text (started_turn a bs) bs ps ≡ started_text a (drop 4 bs ++ whole ps)
unfolding started_turn started_text headed lesson_text pieces_text turn_of whole
started_turn_lem (refused n) bs ps e h few s l = rw (ended (drop (length bs) bs) ps) (append-nil _)
started_turn_lem (gives c) bs ps e h few s l =
    let t = events_turn (record { car = c; number = 1 }) (drop 4 bs) in
    let m = length-drop 4 bs in
    let k = length-append bs (whole ps) in
    let k' = length-append (drop 4 bs) (whole ps) in
    let d = driving (record { car = c; number = 1 }) [] (drop 4 bs ∷ ps) (started_good _ c e) (omega arith) (omega (arith, m), s) (omega (arith, m, k, k')) in
    append_assoc head_text t.text _
    ∙ ap (λ ts. head_text ++ ts) (ap (λ held. t.text ++ pieces_text t.stage held ps) (sym (drop-drop t.used 4 bs)) ∙ d)
    ∙ sym (append_assoc head_text _ _)

-- one turn, from what the turns behind it give while the settings word is not whole
awaited_turn : (bs : List ℕ) (ps : List (List ℕ)) → length bs ≤ 4099 → Short ps → length (bs ++ whole ps) < 2 ^ 64
    → (length bs ≤ 3 → pieces_text Awaited bs ps ≡ listing_of (bs ++ whole ps)) → turn_text (turn_of Awaited bs) bs ps ≡ listing_of (bs ++ whole ps)
unfolding turn_of listing_of idle pick
awaited_turn bs ps few s size behind = go (ltb (length bs) 4) refl
  where
    go : (b : Bool) → ltb (length bs) 4 ≡ b → turn_text (pick b (idle Awaited) (started_turn (start_of (word_at bs 0)) bs)) bs ps ≡ listing_of (bs ++ whole ps)
    go true e = behind (omega (arith, ltb-true (length bs) 4 e))
    go false e =
        let four : 4 ≤ length bs = ltb-false (length bs) 4 e in
        let over : ltb (length (bs ++ whole ps)) 4 ≡ false = le-ltb (length (bs ++ whole ps)) 4 (omega (arith, four, length-append bs (whole ps))) in
        started_turn_lem _ bs ps refl four few s size ∙ sym (rw (over, first_kept bs (whole ps) four, drop-append-le 4 bs (whole ps) four))

awaited : (held : List ℕ) (ps : List (List ℕ)) → length held ≤ 3 → Short ps → length (held ++ whole ps) < 2 ^ 64 → pieces_text Awaited held ps ≡ listing_of (held ++ whole ps)
unfolding pieces_text whole close_text listing_of
awaited held [] h s n = rw append-nil (sym (pick_true _ _ _ (lt-ltb (length held) 4 (omega arith))))
awaited held (q ∷ ps) h s n =
    let size : length (held ++ q ++ whole ps) < 2 ^ 64 = rw (append_assoc held q (whole ps)) n in
    awaited_turn (held ++ q) ps (omega (arith, length-append held q, s.0)) s.1 size (λ few. awaited (held ++ q) ps few s.1 size)
    ∙ ap listing_of (append_assoc held q (whole ps))

-- the text of the pieces of a file, in order, is the file's listing
pub pieces_listing : (ps : List (List ℕ)) → Short ps → length (whole ps) < 2 ^ 64 → pieces_text Awaited [] ps ≡ listing_of (whole ps)
pieces_listing ps s n = awaited [] ps (omega arith) s n

-- ---- a text that was put lies within the slice, which keeps its length over a call
pub text_within : (out after text : List ℕ) → after ≡ placed out 0 text → length after ≡ length out → length text ≤ length after
unfolding placed
text_within out after text e l = let m : length (text ++ drop (0 + length text) out) ≡ length out = ap length (sym e) ∙ l in omega (arith, m, l, length-append text (drop (0 + length text) out))

pub end_within : (out after : List ℕ) (t : Turn) {r : Turned} → r ≡ answered_at 0 t → after ≡ placed out 0 t.text → length after ≡ length out → r.end ≤ length after
unfolding answered_at
end_within out after t e f l = rw e (omega (arith, text_within out after t.text f l))

-- and so do the bytes that are kept
pub kept_within : (bytes : List ℕ) (used : ℕ) {after : List ℕ} {n : ℕ} → (n ≡ length (drop used bytes)) × (after ≡ drop used bytes ++ drop n bytes) → n ≤ length after
kept_within bytes used e = rw e.1 (simp length-append (omega (arith, e.0)))

-- a turn uses no more than there is
words_used : (p : Place) (bs : List ℕ) → (events_turn p bs).used ≤ length bs
unfolding events_turn words_turn idle driven_turn
words_used p bs =
    pick_case (λ (t : Turn). t.used ≤ length bs) (stuck p (take 1024 (words_of bs))) _ _ (λ _. omega arith) (λ _. omega (arith, length-take 1024 (words_of bs), words_length bs))

started_used : (a : Answer Car) (bs : List ℕ) → 4 ≤ length bs → (started_turn a bs).used ≤ length bs
unfolding started_turn headed
started_used (gives c) bs h = omega (arith, words_used (record { car = c; number = 1 }) (drop 4 bs), length-drop 4 bs)
started_used (refused n) bs h = omega arith

turn_used : (s : Stage) (bs : List ℕ) → (turn_of s bs).used ≤ length bs
unfolding turn_of idle
turn_used Awaited bs = pick_case (λ (t : Turn). t.used ≤ length bs) (ltb (length bs) 4) _ _ (λ _. omega arith) (λ e. started_used _ bs (ltb-false (length bs) 4 e))
turn_used (Driving p) bs = words_used p bs
turn_used Ended bs = omega arith

pub used_within : (out : List ℕ) (s : Stage) (bs : List ℕ) {r : Turned} → r ≡ answered_at 0 (turn_in out s bs) → r.used ≤ length bs
unfolding answered_at turn_in idle
used_within out s bs e = rw e (pick_case (λ (t : Turn). t.used ≤ length bs) (ltb (length out) 65600) _ _ (λ _. omega arith) (λ _. turn_used s bs))
