-- Wherever a file is cut into pieces, the text behind them is that of the whole file.
-- Assumes nothing.
use Rattle.std.specs.Prelude.{List, [], ◌∷◌, ◌++◌, ◌≡◌, refl, true, ℕ, ◌*◌, ◌%◌, ◌≤◌, ◌<◌, length, drop}
use Rattle.std.proofs.Common.{append_assoc, append-nil, ap, ◌∙◌, arith, length-append, length-take, take_all, drop_at}
use Rattle.kit.specs.Answer.{gives, refused}
use Rattle.kit.specs.Pick.{pick_true, pick_case}
use Rattle.car.specs.declared.Car.{Car}
use Rattle.car.specs.Good.{good_of}
use Rattle.car.specs.Lesson.{driven}
use Rattle.car.proofs.LessonLaws.{driven_good}
use Rattle.settings.proofs.SettingsWordLaws.{started_good}
use Rattle.history.proofs.HistoryLaws.{driven_append}
use Rattle.wire.specs.Wire.{word_at, words_of}
use Rattle.wire.proofs.WireLaws.{words_length, words_parts, few_words}
use Rattle.exercise.specs.Pieces.{whole, Short}
use Rattle.exercise.proofs.PiecesLaws.{kept, kept_few, kept_size}
use Rattle.cleaning.specs.Cleaning.{open_of}
use Rattle.cleaning.proofs.PiecesLaws.{opened, open_kept, unopened}
use Rattle.moving.specs.declared.Turned.{Turned}
use Rattle.moving.specs.Moving.{sentence, end_text, moves_from, moves_text}
use Rattle.moving.specs.Pieces.{driven_turn, words_turn, turn_of, pieces_text}

-- ---- one turn: all the words of few enough bytes
turn_all : (c : Car) (bs : List ℕ) → good_of c ≡ true → length bs ≤ 4099 → turn_of c bs ≡ driven_turn c (words_of bs)
unfolding turn_of words_turn
turn_all c bs g few = pick_true _ _ _ g ∙ ap (driven_turn c) (take_all 1024 (words_of bs) (omega (arith, words_length bs)))

turn_kept : (c : Car) (bs : List ℕ) → drop (driven_turn c (words_of bs)).used bs ≡ kept bs
unfolding driven_turn
turn_kept c bs = ap (λ n. drop (4 * n) bs) (words_length bs)

-- ---- the pieces, from a good car
pieces_all : (wanted : ℕ) (c : Car) (held : List ℕ) (ps : List (List ℕ)) → good_of c ≡ true → length held ≤ 3 → Short ps
    → pieces_text wanted c held ps ≡ end_text wanted (driven c (words_of (held ++ whole ps))) (length (held ++ whole ps) % 4)
unfolding pieces_text driven_turn whole driven
pieces_all wanted c held [] g h s = let all : length held % 4 ≡ length held = omega arith in rw (append-nil, few_words held h, all) refl
pieces_all wanted c held (q ∷ ps) g h s =
    let bs : List ℕ = held ++ q in
    let turn = turn_all c bs g (omega (arith, length-append held q, s.0)) in
    let rest = pieces_all wanted (driven c (words_of bs)) (kept bs) ps (driven_good c (words_of bs) g) (kept_few bs) s.1 in
    ap (λ (t : Turned). pieces_text wanted t.car (drop t.used bs) ps) turn
    ∙ rw (turn_kept c bs, rest, ← driven_append c (words_of bs) (words_of (kept bs ++ whole ps)), ← words_parts bs (whole ps), kept_size bs (whole ps), append_assoc held q (whole ps)) refl

-- ---- the whole file
-- its first four bytes start a car: the text behind the pieces that follow is the file's
pub pieces_moves : (wanted : ℕ) (head : List ℕ) (c : Car) (ps : List (List ℕ)) → length head ≡ 4 → open_of head ≡ gives c → Short ps
    → pieces_text wanted c [] ps ≡ moves_text wanted (head ++ whole ps)
unfolding moves_text moves_from
pieces_moves wanted head c ps four e s =
    pieces_all wanted c [] ps (started_good (word_at head 0) c (opened head c e).1) (omega arith) s
    ∙ rw (starts, drop_at head (whole ps) 4 four, size) refl
  where
    starts : open_of (head ++ whole ps) ≡ gives c
    starts = open_kept head (whole ps) (omega arith) ∙ e

    size : length (head ++ whole ps) % 4 ≡ length (whole ps) % 4
    size = omega (arith, length-append head (whole ps))

-- its first four bytes, or all where it has fewer, start none: the text is their refusal
pub unopened_moves : (wanted : ℕ) (head more : List ℕ) (n : ℕ) → (length head < 4 → more ≡ []) → open_of head ≡ refused n → moves_text wanted (head ++ more) ≡ sentence n
unfolding moves_text moves_from
unopened_moves wanted head more n all e = rw (unopened head more n all e) refl

-- ---- a turn uses no more bytes than there are
pub used_within : (c : Car) (bs : List ℕ) {r : Turned} → r ≡ turn_of c bs → r.used ≤ length bs
unfolding turn_of words_turn driven_turn
used_within c bs e =
    rw e (pick_case (λ (t : Turned). t.used ≤ length bs) (good_of c) _ _ (λ _. omega (arith, length-take 1024 (words_of bs), words_length bs)) (λ _. omega arith))
