-- What holds of every car and every list of words, of the definitions of Record and Accepted.
-- Assumes nothing.
use Rattle.std.specs.Prelude.{Bool, true, false, ◌&&◌, List, [], ◌∷◌, ◌++◌, ◌≡◌, refl, ℕ, ◌+◌, ◌*◌, ◌^◌, ◌≤◌, eqb, ltb, length, get_or, set, take, drop}
use Rattle.std.proofs.lemmas.Bool.{false≢true}
use Rattle.std.proofs.Common.{sym, ap, subst, ◌∙◌, arith, take_at, eq-eqb, ne_eqb, eqb-true, le-ltb}
use Rattle.kit.specs.Answer.{Answer, gives, refused}
use Rattle.kit.specs.Pick.{pick, pick_true, pick_false, pick_case, and_both, and_l, and_r}
use Rattle.car.specs.declared.Car.{Car}
use Rattle.event.proofs.WordLaws.{gap_le}
use Rattle.car.specs.Car.{ceiling_of, with_gap}
use Rattle.car.specs.Good.{good_of}
use Rattle.car.proofs.GoodLaws.{good, good_test}
use Rattle.car.proofs.KeptLaws.{keeping, keeping_good}
use Rattle.record.specs.Record.{Written}
use Rattle.record.specs.Layout.{headed, packed, unpacked}
use Rattle.record.specs.LayoutShape.{Fits}
use Rattle.record.proofs.LayoutLaws.{good_fits, unpacked_fits, unpacked_packed, packed_unpacked, packed_marked, packed_length}
use Rattle.record.specs.Record.{same_words, write_of, offered, read_of, saved_refusal, saved_buffer}
use Rattle.record.specs.Accepted.{Accepted}

-- ---- the comparison of words
pub same_self : (a : List ℕ) → same_words a a ≡ true
unfolding same_words
same_self [] = refl
same_self (x ∷ xs) = and_both _ _ (eq-eqb x x refl) (same_self xs)

pub same_eq : (a b : List ℕ) → same_words a b ≡ true → a ≡ b
unfolding same_words
same_eq [] [] h = refl
same_eq [] (y ∷ ys) h = absurd (false≢true h)
same_eq (x ∷ xs) [] h = absurd (false≢true h)
same_eq (x ∷ xs) (y ∷ ys) h =
    let p = eqb-true x y (and_l (eqb x y) (same_words xs ys) h) in
    let q = same_eq xs ys (and_r (eqb x y) (same_words xs ys) h) in
    cc

-- ---- the gap 30
-- no good car has it
pub good_gap : (c : Car) → good_of c ≡ true → c.gap ≡ 30 → ⊥
good_gap c g e = omega (arith, e, gap_le c.gap (good c g).ranges.gap)

-- any other gap stays
pub offered_same : (c : Car) → (c.gap ≡ 30 → ⊥) → offered c ≡ c
unfolding offered
offered_same c n = pick_false _ _ _ (ne_eqb c.gap 30 n)

pub offered_30 : (c : Car) → c.gap ≡ 30 → offered c ≡ with_gap c 25
unfolding offered
offered_30 c e = pick_true _ _ _ (eq-eqb c.gap 30 e)

pub offered_good : (c : Car) → good_of c ≡ true → offered c ≡ c
offered_good c g = offered_same c (good_gap c g)

-- ---- acceptance
abbrev test : List ℕ → Bool
test ws = good_of (offered (unpacked ws)) && same_words (packed (unpacked ws)) ws

accepted_words_lem : (ws : List ℕ) → Accepted ws → packed (unpacked ws) ≡ ws
accepted_words_lem ws a = packed_unpacked ws a.twelve (λ p h. (a.marks p h, a.places p h, a.zeros p h))

accepted_test : (ws : List ℕ) → Accepted ws → test ws ≡ true
accepted_test ws a = and_both _ _ (good_test (offered (unpacked ws)) a.good) (rw (accepted_words_lem ws a) (same_self ws))

-- the words of a car whose numbers fit are accepted where it is good with 25 for the gap 30
fitting_accepted : (c : Car) → Fits c → good_of (offered c) ≡ true → Accepted (packed c)
fitting_accepted c f h =
    let m = packed_marked c f in
    record {
      twelve = packed_length c;
      marks = λ p l. (m p l).0;
      places = λ p l. (m p l).1;
      zeros = λ p l. (m p l).2;
      good = rw (unpacked_packed c f) (good (offered c) h);
    }

-- a good car's words are accepted
pub packed_accepted : (c : Car) → good_of c ≡ true → Accepted (packed c)
packed_accepted c h = fitting_accepted c (good_fits c h) (rw (offered_good c h) h)

test_accepted : (ws : List ℕ) → test ws ≡ true → Accepted ws
test_accepted ws h =
    let g = and_l (good_of (offered (unpacked ws))) (same_words (packed (unpacked ws)) ws) h in
    let e = same_eq (packed (unpacked ws)) ws (and_r (good_of (offered (unpacked ws))) (same_words (packed (unpacked ws)) ws) h) in
    subst Accepted e (fitting_accepted (unpacked ws) (unpacked_fits ws) g)

-- what the reading of words says: they are accepted, and the car; or refusal 18, and that they are not accepted
unfoldable Reads : List ℕ → Answer Car → Type 0
Reads ws (gives c) = Accepted ws × (c ≡ offered (unpacked ws))
Reads ws (refused n) = (n ≡ 18) × (Accepted ws → ⊥)

reads : (ws : List ℕ) → Reads ws (read_of ws)
unfolding Reads read_of
reads ws =
    pick_case (Reads ws) (test ws) _ _
    (λ t. (test_accepted ws t, refl))
    (λ t. (refl, λ a. false≢true (sym t ∙ accepted_test ws a)))

-- an accepted record is read as the car that its fields say, with 25 for the gap 30
pub accepted_read : (ws : List ℕ) → Accepted ws → read_of ws ≡ gives (offered (unpacked ws))
unfolding read_of
accepted_read ws a = pick_true _ _ _ (accepted_test ws a)

-- words that are read are an accepted record, and the car is the one that its fields say
pub read_accepted : (ws : List ℕ) (c : Car) → read_of ws ≡ gives c → Accepted ws × (c ≡ offered (unpacked ws))
unfolding Reads
read_accepted ws c h = subst (Reads ws) h (reads ws)

-- every refusal is 18, and of words that are not accepted
pub refused_18 : (ws : List ℕ) (n : ℕ) → read_of ws ≡ refused n → (n ≡ 18) × (Accepted ws → ⊥)
unfolding Reads
refused_18 ws n h = subst (Reads ws) h (reads ws)

-- words that are not accepted are refused
pub not_accepted : (ws : List ℕ) → (Accepted ws → ⊥) → read_of ws ≡ refused 18
unfolding read_of
not_accepted ws h = pick_case (λ (r : Answer Car). r ≡ refused 18) (test ws) _ _ (λ t. absurd (h (test_accepted ws t))) (λ t. refl)

-- ---- a car's words read, and the words of a car that was read
pub held_read : (c : Car) → Fits c → good_of (offered c) ≡ true → read_of (packed c) ≡ gives (offered c)
held_read c f h = accepted_read (packed c) (fitting_accepted c f h) ∙ ap (λ (x : Car). gives (offered x)) (unpacked_packed c f)

pub packed_read : (c : Car) → good_of c ≡ true → read_of (packed c) ≡ gives c
packed_read c h = let e = offered_good c h in held_read c (good_fits c h) (rw e h) ∙ ap gives e

-- a car that was read is good
pub read_good : (ws : List ℕ) (c : Car) → read_of ws ≡ gives c → good_of c ≡ true
read_good ws c h = let r = read_accepted ws c h in rw r.1 (good_test (offered (unpacked ws)) r.0.good)

-- "for such records alone the words differ": one that holds another gap has the words of its car
pub read_packed : (ws : List ℕ) (c : Car) → read_of ws ≡ gives c → ((unpacked ws).gap ≡ 30 → ⊥) → packed c ≡ ws
read_packed ws c h n = let r = read_accepted ws c h in rw (r.1, offered_same (unpacked ws) n) (accepted_words_lem ws r.0)

-- one that holds 30 has them but for word 9, which is 25 in them
pub packed_gap : (c : Car) (n : ℕ) → packed (with_gap c n) ≡ set (packed c) 9 (headed 9 n)
unfolding packed with_gap
packed_gap c n = let e : n + 2 ^ 5 * 0 ≡ n = omega arith in ap (λ (x : ℕ). set (packed c) 9 (headed 9 x)) e

packed_word_9 : (c : Car) → get_or (packed c) 9 0 ≡ headed 9 c.gap
unfolding packed
packed_word_9 c = omega arith

pub read_packed_30 : (ws : List ℕ) (c : Car) → read_of ws ≡ gives c → (unpacked ws).gap ≡ 30
    → (get_or ws 9 0 ≡ headed 9 30) × (packed c ≡ set ws 9 (headed 9 25))
read_packed_30 ws c h e =
    let r = read_accepted ws c h in
    let p = accepted_words_lem ws r.0 in (
      ap (λ (x : List ℕ). get_or x 9 0) (sym p) ∙ packed_word_9 (unpacked ws) ∙ ap (headed 9) e,
      ap packed (r.1 ∙ offered_30 (unpacked ws) e) ∙ packed_gap (unpacked ws) 25 ∙ ap (λ (x : List ℕ). set x 9 (headed 9 25)) p,
    )

-- a good car is the one that its record gives, and a record has twelve words
pub own_record : (c : Car) → good_of c ≡ true → unpacked (packed c) ≡ c
own_record c g = unpacked_packed c (good_fits c g)

pub twelve : (c : Car) {ws : List ℕ} → ws ≡ packed c → length ws ≡ 12
twelve c e = ap length e ∙ packed_length c

-- ---- the writer by value
-- a good car written and read again is the same
pub written_read : (c : Car) → good_of c ≡ true → ((write_of c).refusal ≡ 0) × (read_of (write_of c).words ≡ gives c)
unfolding write_of
written_read c g = rw (pick_true _ _ _ g) (refl, packed_read c g)

-- an accepted record read and written again has the same words, unless it holds 30
pub read_written : (ws : List ℕ) (c : Car) → read_of ws ≡ gives c → ((unpacked ws).gap ≡ 30 → ⊥) → write_of c ≡ record { refusal = 0; words = ws }
unfolding write_of
read_written ws c h n = pick_true _ _ _ (read_good ws c h) ∙ rw (read_packed ws c h n)

-- what is written has twelve words, also where it is refused
pub written_twelve : (c : Car) → length (write_of c).words ≡ 12
unfolding write_of
written_twelve c = pick_case (λ (w : Written). length w.words ≡ 12) (good_of c) _ _ (λ t. packed_length c) (λ t. refl)

-- written: the words of a good car; refused: 18, of a car that is not good
pub written_yes : (c : Car) → (write_of c).refusal ≡ 0 → ((write_of c).words ≡ packed c) × (good_of c ≡ true)
unfolding write_of
written_yes c =
    pick_case (λ (w : Written). w.refusal ≡ 0 → (w.words ≡ packed c) × (good_of c ≡ true)) (good_of c) _ _
    (λ g h. (refl, g)) (λ g h. absurd (omega arith))

pub written_no : (c : Car) → ((write_of c).refusal ≡ 0 → ⊥) → ((write_of c).refusal ≡ 18) × (good_of c ≡ false)
unfolding write_of
written_no c =
    pick_case (λ (w : Written). (w.refusal ≡ 0 → ⊥) → (w.refusal ≡ 18) × (good_of c ≡ false)) (good_of c) _ _
    (λ g h. absurd (h refl)) (λ g h. (refl, g))

-- an accepted record that gives a car
pub record Recorded (c : Car) : Type 0 where
  pub words : List ℕ
  pub accepted : Accepted words
  pub gives : read_of words ≡ gives c

-- the good cars are exactly those that some accepted record gives
pub good_exactly : (c : Car) → (good_of c ≡ true → Recorded c) × (Recorded c → good_of c ≡ true)
good_exactly c = (
  λ h. record { words = packed c; accepted = packed_accepted c h; gives = packed_read c h },
  λ r. read_good r.words c r.gives,
)

-- document 02, §4: a car with the key on, cruise off and any D up to the ceiling, good but for that D, is read back as itself
pub keeping_read : (c : Car) (d : ℕ) → good_of c ≡ true → c.key ≡ 2 → c.cruise.on ≡ false → d ≤ ceiling_of c.settings
    → read_of (packed (keeping c d)) ≡ gives (keeping c d)
keeping_read c d g k e b = packed_read _ (keeping_good c d g k e b)

-- ---- the writer into a buffer
-- a car that was written into a buffer is read from the buffer's first twelve words
pub saved_read : (c : Car) (buffer : List ℕ) → saved_refusal c buffer ≡ 0 → read_of (take 12 (saved_buffer c buffer)) ≡ gives c
unfolding saved_refusal saved_buffer pick
saved_read c buffer = go (good_of c) (ltb (length buffer) 12) refl
  where
    go : (g s : Bool) → good_of c ≡ g → pick {A = ℕ} g (pick s 20 0) 18 ≡ 0
        → read_of (take 12 (pick g (pick s buffer (packed c ++ drop 12 buffer)) buffer)) ≡ gives c
    go true true e h = absurd (omega arith)
    go true false e h = rw (take_at (packed c) (drop 12 buffer) 12 (packed_length c)) (packed_read c e)
    go false s e h = absurd (omega arith)

-- a good car fits every buffer of twelve words or more, and those past the twelfth are kept
pub good_saved : (c : Car) (buffer : List ℕ) → good_of c ≡ true → 12 ≤ length buffer
    → (saved_refusal c buffer ≡ 0) × (saved_buffer c buffer ≡ packed c ++ drop 12 buffer)
unfolding saved_refusal saved_buffer
good_saved c buffer g h = let s = le-ltb (length buffer) 12 h in (rw (pick_true _ _ _ g) (pick_false _ _ _ s), rw (pick_true _ _ _ g) (pick_false _ _ _ s))

-- a good car written into a buffer and read again is the same
pub saved_read_good : (c : Car) (buffer : List ℕ) → good_of c ≡ true → 12 ≤ length buffer
    → (saved_refusal c buffer ≡ 0) × (read_of (take 12 (saved_buffer c buffer)) ≡ gives c)
saved_read_good c buffer g h = let r = (good_saved c buffer g h).0 in (r, saved_read c buffer r)

-- an accepted record read and written into a buffer has the same words, unless it holds 30
pub read_saved : (ws : List ℕ) (c : Car) (buffer : List ℕ) → read_of ws ≡ gives c → ((unpacked ws).gap ≡ 30 → ⊥) → 12 ≤ length buffer
    → (saved_refusal c buffer ≡ 0) × (saved_buffer c buffer ≡ ws ++ drop 12 buffer)
read_saved ws c buffer r n h =
    let s = good_saved c buffer (read_good ws c r) h in
    (s.0, rw (read_packed ws c r n) at s.1)

-- a buffer that was refused is kept
pub saved_kept : (c : Car) (buffer : List ℕ) → (saved_refusal c buffer ≡ 0 → ⊥) → saved_buffer c buffer ≡ buffer
unfolding saved_refusal saved_buffer pick
saved_kept c buffer = go (good_of c) (ltb (length buffer) 12)
  where
    go : (g s : Bool) → (pick {A = ℕ} g (pick s 20 0) 18 ≡ 0 → ⊥) → pick g (pick s buffer (packed c ++ drop 12 buffer)) buffer ≡ buffer
    go true true h = refl
    go true false h = absurd (h refl)
    go false s h = refl

-- ---- what was written with no refusal: the record of a good car, which is read back as that car
pub record WrittenRecord (c : Car) (words : List ℕ) : Type 0 where
  pub good : good_of c ≡ true
  pub car : unpacked words ≡ c
  pub accepted : read_of words ≡ gives (unpacked words)

pub written_record : (c : Car) (w : Written) → w ≡ write_of c → w.refusal ≡ 0 → WrittenRecord c w.words
written_record c w e z =
    let y = written_yes c (rw e at z) in
    let p : w.words ≡ packed c = rw e y.0 in
    let o = own_record c y.1 in
    record { good = y.1; car = rw p o; accepted = rw p (packed_read c y.1 ∙ ap gives (sym o)) }
