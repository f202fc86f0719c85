-- Wherever a file is cut into pieces, the text behind them is that of the whole file.
-- Assumes nothing.
use Rattle.std.specs.Prelude.{Some, None, true, false, List, [], ◌∷◌, ◌++◌, ◌≡◌, refl, ℕ, ◌+◌, ◌*◌, ◌/◌, ◌%◌, ◌^◌, ◌≤◌, ◌<◌, length, take, drop}
use Rattle.std.proofs.Common.{append_assoc, append-nil, sym, ap, ◌∙◌, add_assoc, add-zero, zero-add, arith, le-ltb, length-append, length-drop, length-take, take_all, drop_at}
use Rattle.kit.specs.Answer.{gives, refused}
use Rattle.kit.specs.Pick.{pick_false, pick_case, or_neither, not_of_true}
use Rattle.car.specs.declared.Car.{Car}
use Rattle.car.specs.Good.{good_of}
use Rattle.car.specs.Lesson.{driven}
use Rattle.car.proofs.LessonLaws.{driven_good, counts_all}
use Rattle.car.specs.Mark.{seconds_of}
use Rattle.settings.proofs.SettingsWordLaws.{started_good}
use Rattle.history.proofs.HistoryLaws.{driven_append}
use Rattle.passing.specs.Passing.{Passed, later, onward, passed_of}
use Rattle.passing.proofs.PassingLaws.{later_0, passed_append, seconds_append, seconds_accepted}
use Rattle.wire.specs.Wire.{word_at, words_of}
use Rattle.wire.proofs.WireLaws.{words_length, words_parts, few_words}
use Rattle.listing.specs.Listing.{refused_text}
use Rattle.exercise.specs.Pieces.{whole, Short}
use Rattle.exercise.proofs.PiecesLaws.{kept, kept_few, kept_size}
use Rattle.cleaning.specs.Cleaning.{open_of}
use Rattle.cleaning.proofs.PiecesLaws.{opened, open_kept, unopened}
use Rattle.marking.specs.declared.Stage.{Stage}
use Rattle.marking.specs.declared.Turned.{Turned}
use Rattle.marking.specs.Marking.{mark_from, mark_text}
use Rattle.marking.specs.Pieces.{fresh_stage, further_of, stuck, idle, words_turn, turn_of, end_text, pieces_text}

-- ---- the event that passed the mark, over parts
later_later : (k l : ℕ) (q : Passed) → later k (later l q) ≡ later (k + l) q
unfolding later
later_later k l (Some n) = ap Some (sym (add_assoc k l n))
later_later k l None = refl

onward_onward : (p : Passed) (k : ℕ) (q : Passed) (l : ℕ) (r : Passed) → onward (onward p k q) (k + l) r ≡ onward p k (onward q l r)
unfolding onward later
onward_onward (Some n) k q l r = refl
onward_onward None k (Some n) l r = refl
onward_onward None k None l r = sym (later_later k l r)

-- ---- the stage behind words after words
same_stage : {c c' : Car} {e e' : ℕ} {p p' : Passed} {n n' : ℕ} → c ≡ c' → e ≡ e' → p ≡ p' → n ≡ n'
    → ◌≡◌ {A = Stage} (record { car = c; events = e; passed = p; seconds = n }) (record { car = c'; events = e'; passed = p'; seconds = n' })
same_stage c e p n = rw (c, e, p, n)

further_append : (mark : ℕ) (s : Stage) (us vs : List ℕ) → further_of mark (further_of mark s us) vs ≡ further_of mark s (us ++ vs)
unfolding further_of
further_append mark s us vs =
    same_stage (sym (driven_append s.car us vs)) (omega (arith, length-append us vs))
    (onward_onward s.passed s.events (passed_of mark s.car us) (length us) (passed_of mark (driven s.car us) vs) ∙ rw (passed_append mark s.car us vs))
    (omega (arith, seconds_append mark s.car us vs))

onward_none : (p : Passed) (k : ℕ) → onward p k None ≡ p
unfolding onward later
onward_none (Some n) k = refl
onward_none None k = refl

further_none : (mark : ℕ) (s : Stage) → further_of mark s [] ≡ s
unfolding further_of driven passed_of seconds_of
further_none mark s = rw (onward_none, add-zero s.events, add-zero s.seconds)

-- no more seconds than words
pub seconds_few : (mark : ℕ) (c : Car) (ws : List ℕ) → seconds_of mark c ws ≤ length ws
seconds_few mark c ws = omega (arith, seconds_accepted mark c ws, counts_all c ws)

-- ---- one turn
-- the numbers of so many words more fit into 64 bits
abbrev Fits : Stage → ℕ → Type 0
Fits s n = (s.events + n ≤ 18446744073709551615) × (s.seconds + n ≤ 18446744073709551615)

pub unstuck : (s : Stage) (ws : List ℕ) → good_of s.car ≡ true → Fits s (length ws) → stuck s ws ≡ false
unfolding stuck
unstuck s ws g f = or_neither _ _ (or_neither _ _ (le-ltb _ _ f.0) (le-ltb _ _ f.1)) (not_of_true _ g)

pub goes : (mark : ℕ) (s : Stage) (ws : List ℕ) → good_of s.car ≡ true → Fits s (length ws)
    → words_turn mark s ws ≡ record { stage = further_of mark s ws; used = 4 * length ws }
unfolding words_turn
goes mark s ws g f = pick_false _ _ _ (unstuck s ws g f)

-- all the words of few enough bytes
turn_all : (mark : ℕ) (s : Stage) (bs : List ℕ) → good_of s.car ≡ true → Fits s (length bs / 4) → length bs ≤ 4099
    → turn_of mark s bs ≡ record { stage = further_of mark s (words_of bs); used = 4 * (length bs / 4) }
unfolding turn_of
turn_all mark s bs g f few =
    let n = words_length bs in
    ap (words_turn mark s) (take_all 1024 (words_of bs) (omega (arith, n))) ∙ goes mark s (words_of bs) g (rw n f) ∙ rw n

-- ---- the pieces, from a good car
pieces_all : (mark : ℕ) (s : Stage) (held : List ℕ) (ps : List (List ℕ)) → good_of s.car ≡ true → length held ≤ 3 → Short ps → Fits s (length (held ++ whole ps) / 4)
    → pieces_text mark s held ps ≡ end_text (further_of mark s (words_of (held ++ whole ps))) (length (held ++ whole ps) % 4)
unfolding pieces_text whole further_of
pieces_all mark s held [] g h short f = let all : length held % 4 ≡ length held = omega arith in rw (append-nil, few_words held h, further_none mark s, all)
pieces_all mark s held (q ∷ ps) g h short f =
    let bs : List ℕ = held ++ q in
    let t : Stage = further_of mark s (words_of bs) in
    let l = length-append held q in
    let m = length-append held (q ++ whole ps) in
    let m' = length-append q (whole ps) in
    let k = length-append (kept bs) (whole ps) in
    let k' = length-drop (4 * (length bs / 4)) bs in
    let w = words_length bs in
    let n = seconds_few mark s.car (words_of bs) in
    let turn = turn_all mark s bs g (omega (arith, l, m, m'), omega (arith, l, m, m')) (omega (arith, l, short.0)) in
    let rest = pieces_all mark t (kept bs) ps (driven_good s.car (words_of bs) g) (kept_few bs) short.1 (omega (arith, l, m, m', k, k', w), omega (arith, l, m, m', k, k', w, n)) in
    ap (λ (r : Turned). pieces_text mark r.stage (drop r.used bs) ps) turn ∙ rest
    ∙ rw (further_append mark s (words_of bs) (words_of (kept bs ++ whole ps)), ← words_parts bs (whole ps), kept_size bs (whole ps), append_assoc held q (whole ps))

-- ---- the whole file
-- its first four bytes start a car: the text behind the pieces that follow is the file's
pub pieces_mark : (mark : ℕ) (head : List ℕ) (c : Car) (ps : List (List ℕ)) → length head ≡ 4 → open_of head ≡ gives c → Short ps → length (head ++ whole ps) < 2 ^ 64
    → pieces_text mark (fresh_stage c) [] ps ≡ mark_text mark (head ++ whole ps)
unfolding mark_text mark_from fresh_stage end_text further_of onward
pieces_mark mark head c ps four e short size =
    pieces_all mark (fresh_stage c) [] ps (started_good (word_at head 0) c (opened head c e).1) (omega arith) short (omega (arith, all), omega (arith, all))
    ∙ rw (starts, drop_at head (whole ps) 4 four, later_0, zero-add, sizes)
  where
    all : length (head ++ whole ps) ≡ length head + length (whole ps)
    all = length-append head (whole ps)

    starts : open_of (head ++ whole ps) ≡ gives c
    starts = open_kept head (whole ps) (omega arith) ∙ e

    sizes : length (head ++ whole ps) % 4 ≡ length (whole ps) % 4
    sizes = omega (arith, all)

-- its first four bytes, or all where it has fewer, start none: the text is their refusal
pub unopened_mark : (mark : ℕ) (head more : List ℕ) (n : ℕ) → (length head < 4 → more ≡ []) → open_of head ≡ refused n → mark_text mark (head ++ more) ≡ refused_text n
unfolding mark_text mark_from
unopened_mark mark head more n all e = rw (unopened head more n all e)

-- ---- a turn uses no more bytes than there are
pub used_within : (mark : ℕ) (s : Stage) (bs : List ℕ) {r : Turned} → r ≡ turn_of mark s bs → r.used ≤ length bs
unfolding turn_of words_turn idle
used_within mark s bs e =
    rw e (pick_case (λ (t : Turned). t.used ≤ length bs) (stuck s (take 1024 (words_of bs))) _ _ (λ _. omega arith) (λ _. omega (arith, length-take 1024 (words_of bs), words_length bs)))
