-- A file's first four bytes and the bytes of the pieces behind them, in order, are the clean file, wherever it is cut.
-- Assumes nothing.
use Rattle.std.specs.Prelude.{Bool, true, false, List, [], ◌∷◌, ◌++◌, ◌≡◌, refl, ℕ, ◌*◌, ◌%◌, ◌≤◌, ◌<◌, ltb, length, drop}
use Rattle.std.proofs.Common.{append_assoc, append-nil, sym, ap, ◌∙◌, arith, le-ltb, ltb-true, ltb-false, length-append, length-take, take_all, take_at, drop_at}
use Rattle.kit.specs.Answer.{gives, refused}
use Rattle.kit.specs.Pick.{pick, pick_true, pick_case}
use Rattle.kit.specs.Placed.{placed}
use Rattle.car.specs.declared.Car.{Car}
use Rattle.car.specs.Good.{good_of}
use Rattle.car.specs.Lesson.{driven}
use Rattle.car.proofs.LessonLaws.{driven_good}
use Rattle.settings.specs.SettingsWord.{start_of}
use Rattle.settings.proofs.SettingsWordLaws.{started_good}
use Rattle.history.specs.History.{accepted_words}
use Rattle.history.proofs.AcceptedLaws.{accepted_append}
use Rattle.wire.specs.Wire.{word_at, words_of, bytes_of}
use Rattle.wire.proofs.WireLaws.{first_kept, words_length, words_parts, few_words, bytes_append}
use Rattle.exercise.specs.Pieces.{whole, Short}
use Rattle.exercise.proofs.PiecesLaws.{kept, kept_few, kept_size, text_within}
use Rattle.cleaning.specs.declared.Turned.{Turned}
use Rattle.cleaning.specs.Cleaning.{open_of, clean_from, clean_of, end_refusal, refusal_from, clean_refusal}
use Rattle.cleaning.specs.Pieces.{Turn, idle, driven_turn, words_turn, turn_of, pieces_bytes, pieces_refusal, turn_in, answered}

-- ---- the settings word
-- a file that opens has it whole
pub opened : (bs : List ℕ) (c : Car) → open_of bs ≡ gives c → (4 ≤ length bs) × (start_of (word_at bs 0) ≡ gives c)
unfolding open_of pick
opened bs c e = go (ltb (length bs) 4) refl e
  where
    go : (t : Bool) → ltb (length bs) 4 ≡ t → pick t (refused 17) (start_of (word_at bs 0)) ≡ gives c → (4 ≤ length bs) × (start_of (word_at bs 0) ≡ gives c)
    go true t e = let z : ◌≡◌ {A = ℕ} 0 1 = cc in absurd (omega arith)
    go false t e = (ltb-false (length bs) 4 t, e)

-- whatever follows it
pub open_kept : (head more : List ℕ) → 4 ≤ length head → open_of (head ++ more) ≡ open_of head
unfolding open_of
open_kept head more h =
    let l : ltb (length (head ++ more)) 4 ≡ false = le-ltb (length (head ++ more)) 4 (omega (arith, length-append head more)) in
    let m : ltb (length head) 4 ≡ false = le-ltb _ _ h in
    rw (l, m, first_kept head more h)

-- of a file whose first four bytes, or all where it has fewer, start no car
pub unopened : (head more : List ℕ) (n : ℕ) → (length head < 4 → more ≡ []) → open_of head ≡ refused n → open_of (head ++ more) ≡ refused n
unopened head more n all e = go (ltb (length head) 4) refl ∙ e
  where
    go : (t : Bool) → ltb (length head) 4 ≡ t → open_of (head ++ more) ≡ open_of head
    go true t = rw (all (ltb-true (length head) 4 t), append-nil)
    go false t = open_kept head more (ltb-false (length head) 4 t)

-- ---- one turn
-- all the words of few enough bytes
turn_all : (c : Car) (bs : List ℕ) → good_of c ≡ true → length bs ≤ 4099 → turn_of c bs ≡ driven_turn c (words_of bs)
unfolding turn_of words_turn
turn_all c bs g few = pick_true _ _ _ g ∙ ap (driven_turn c) (take_all 1024 (words_of bs) (omega (arith, words_length bs)))

-- what it leaves of them
turn_kept : (c : Car) (bs : List ℕ) → drop (driven_turn c (words_of bs)).used bs ≡ kept bs
unfolding driven_turn
turn_kept c bs = ap (λ n. drop (4 * n) bs) (words_length bs)

-- ---- the pieces, from a good car
pieces_all : (c : Car) (held : List ℕ) (ps : List (List ℕ)) → good_of c ≡ true → length held ≤ 3 → Short ps
    → (pieces_bytes c held ps ≡ bytes_of (accepted_words c (words_of (held ++ whole ps)))) × (pieces_refusal c held ps ≡ end_refusal (length (held ++ whole ps) % 4))
unfolding pieces_bytes pieces_refusal driven_turn whole accepted_words bytes_of
pieces_all c held [] g h s = let all : length held % 4 ≡ length held = omega arith in (rw (append-nil, few_words held h), rw (append-nil, all))
pieces_all c held (q ∷ ps) g h s =
    let bs : List ℕ = held ++ q in
    let turn = turn_all c bs g (omega (arith, length-append held q, s.0)) in
    let rest = pieces_all (driven c (words_of bs)) (kept bs) ps (driven_good c (words_of bs) g) (kept_few bs) s.1 in (
      ap (λ (t : Turn). t.bytes ++ pieces_bytes t.car (drop t.used bs) ps) turn
          ∙ rw (turn_kept c bs, rest.0, ← append_assoc held q (whole ps), words_parts bs (whole ps), accepted_append c (words_of bs) (words_of (kept bs ++ whole ps)))
          (sym (bytes_append (accepted_words c (words_of bs)) _)),
      ap (λ (t : Turn). pieces_refusal t.car (drop t.used bs) ps) turn ∙ rw (turn_kept c bs, rest.1, kept_size bs (whole ps), append_assoc held q (whole ps)),
    )

-- ---- the whole file
-- its first four bytes start a car: they and the bytes of its pieces are the clean file, and what is told at the end is its refusal
pub pieces_clean : (head : List ℕ) (c : Car) (ps : List (List ℕ)) → length head ≡ 4 → open_of head ≡ gives c → Short ps
    → (head ++ pieces_bytes c [] ps ≡ clean_of (head ++ whole ps)) × (pieces_refusal c [] ps ≡ clean_refusal (head ++ whole ps))
unfolding clean_of clean_from clean_refusal refusal_from
pieces_clean head c ps four e s = (rw (starts, all.0, take_at head (whole ps) 4 four, drop_at head (whole ps) 4 four), rw (starts, all.1, size))
  where
    starts : open_of (head ++ whole ps) ≡ gives c
    starts = open_kept head (whole ps) (omega arith) ∙ e

    all : (pieces_bytes c [] ps ≡ bytes_of (accepted_words c (words_of (whole ps)))) × (pieces_refusal c [] ps ≡ end_refusal (length (whole ps) % 4))
    all = pieces_all c [] ps (started_good (word_at head 0) c (opened head c e).1) (omega arith) s

    size : length (head ++ whole ps) % 4 ≡ length (whole ps) % 4
    size = omega (arith, length-append head (whole ps))

-- its first four bytes, or all where it has fewer, start none: the clean file is empty, and what is told is their refusal
pub unopened_clean : (head more : List ℕ) (n : ℕ) → (length head < 4 → more ≡ []) → open_of head ≡ refused n → (clean_of (head ++ more) ≡ []) × (clean_refusal (head ++ more) ≡ n)
unfolding clean_of clean_from clean_refusal refusal_from
unopened_clean head more n all e = let still = unopened head more n all e in (rw still, rw still)

-- ---- what a turn puts lies within the slice, which keeps its length over a call
pub end_within : (out after : List ℕ) (t : Turn) {r : Turned} → r ≡ answered t → after ≡ placed out 0 t.bytes → length after ≡ length out → r.end ≤ length after
unfolding answered
end_within out after t e f l = rw e (text_within out after t.bytes f l)

-- and it uses no more bytes than there are
pub used_within : (out : List ℕ) (c : Car) (bs : List ℕ) {r : Turned} → r ≡ answered (turn_in out c bs) → r.used ≤ length bs
unfolding answered turn_in turn_of words_turn idle driven_turn
used_within out c bs e =
    rw e (pick_case (λ (t : Turn). t.used ≤ length bs) (ltb (length out) 4096) _ _ (λ _. omega arith)
    (λ _. pick_case (λ (t : Turn). t.used ≤ length bs) (good_of c) _ _ (λ _. omega (arith, length-take 1024 (words_of bs), words_length bs)) (λ _. omega arith)))
