-- What holds of every event and every word, of the definitions of Words.
-- Assumes nothing.
use Rattle.std.specs.Prelude.{Bool, true, false, ◌&&◌, ◌||◌, not, ◌⊎◌, ◌↔◌, ◌≡◌, ℕ, ◌+◌, ◌*◌, ◌/◌, ◌%◌, ◌≤◌, ◌<◌, eqb, leb}
use Rattle.std.proofs.Math.Path.{refl}
use Rattle.std.proofs.Common.{true≢false, inl, inr, ⊎_elim, sym, ap, subst, ◌∙◌, arith, leb-true, leb-false, ltb-true, eqb-true}
use Rattle.std.proofs.Math.Dec.{ltb}
use Rattle.std.proofs.lemmas.Bool.{eqb-false, lt-leb, not-true, not-false}
use Rattle.kit.specs.Answer.{Answer, gives, refused}
use Rattle.kit.specs.Bounds.{pedal_ceiling, speed_ceiling}
use Rattle.kit.specs.Pick.{pick, pick_true, pick_false, not_of_true, pick_case, and_l, and_r}
use Rattle.event.specs.declared.Input.{Input}
use Rattle.event.specs.declared.Input.TheVariants.{Key, UpDown, ForeBack, Brake, Gas, Button, Gap, Sign, Radar}
use Rattle.event.specs.declared.Event.{Event}
use Rattle.event.specs.declared.Event.TheVariants as event
use Rattle.event.specs.Words.{kind_of, body_of, permitted_gap, input_range, range_refusal, in_range, unnamed_of, judged, key_word, radar_word, key_on_of, inputs_of, input_of, tick_word, input_event, read_of, bit_of, input_word, word_of, write_of}

-- ---- values and flags
-- a permitted gap is at most two and a half seconds
pub gap_le : (n : ℕ) → permitted_gap n ≡ true → n ≤ 25
unfolding permitted_gap
gap_le n h = go (eqb n 20) refl h
  where
    go : (p : Bool) → eqb n 20 ≡ p → (p || eqb n 25) ≡ true → n ≤ 25
    go true e h = omega (arith, eqb-true n 20 e)
    go false e h = omega (arith, eqb-true n 25 h)

radar_le : (range speed : ℕ) → (leb range 254 && leb speed speed_ceiling) ≡ true → (range ≤ 254) × (speed ≤ speed_ceiling)
radar_le range speed h =
    (leb-true range 254 (and_l (leb range 254) (leb speed speed_ceiling) h), leb-true speed speed_ceiling (and_r (leb range 254) (leb speed speed_ceiling) h))

pub bit_le : (b : Bool) → bit_of b ≤ 1
unfolding bit_of pick
bit_le true = omega arith
bit_le false = omega arith

pub bit_flag : (b : Bool) → eqb (bit_of b) 1 ≡ b
unfolding bit_of pick
bit_flag true = refl
bit_flag false = refl

pub flag_bit : (n : ℕ) → n ≤ 1 → bit_of (eqb n 1) ≡ n
unfolding bit_of
flag_bit n h = pick_case (λ (b : ℕ). b ≡ n) (eqb n 1) 1 0 (λ t. sym (eqb-true n 1 t)) (λ t. let f = eqb-false n 1 t in omega arith)

-- ---- writing
-- an event in range has a word of 32 bits
pub input_fits : (i : Input) → input_range i ≡ true → input_word i < 4294967296
unfolding input_range input_word
input_fits (Key position ready) h = omega (arith, leb-true position 2 h, bit_le ready)
input_fits (UpDown x) h = omega (arith, leb-true x 4 h)
input_fits (ForeBack x) h = omega (arith, leb-true x 2 h)
input_fits (Brake x) h = omega (arith, leb-true x pedal_ceiling h)
input_fits (Gas x) h = omega (arith, leb-true x pedal_ceiling h)
input_fits (Button limit) h = omega (arith, leb-true limit speed_ceiling h)
input_fits (Gap tenths) h = omega (arith, gap_le tenths h)
input_fits (Sign s) h = omega (arith, leb-true s 2000 h)
input_fits (Radar range speed) h = let r = radar_le range speed h in omega arith

pub word_fits : (e : Event) → in_range e ≡ true → word_of e < 4294967296
unfolding in_range word_of
word_fits (event.Input i) h = input_fits i h
word_fits (event.Tick ready) h = omega (arith, bit_le ready)

-- "the gap choice 30" (document 02, §12), as an event
abbrev pub gap_30 : Event
gap_30 = event.Input (Gap 30)

-- "24, and not 3, the gap choice 30": which of the two numbers an event out of range gets
abbrev pub OutOfRange : Event → ℕ → Type 0
OutOfRange e n = ((n ≡ 3) × (e ≡ gap_30 → ⊥)) ⊎ ((n ≡ 24) × (e ≡ gap_30))

-- the gap of an event, 0 of one that has none
unfoldable gap_of : Event → ℕ
gap_of (event.Input (Gap tenths)) = tenths
gap_of (event.Input i) = 0
gap_of (event.Tick ready) = 0

other_input : (i : Input) → gap_of (event.Input i) ≡ 0 → event.Input i ≡ gap_30 → ⊥
unfolding gap_of
other_input i z e = omega (arith, z, ap gap_of e)

range_number : (i : Input) → OutOfRange (event.Input i) (range_refusal i)
unfolding range_refusal gap_of
range_number (Key position ready) = inl (refl, other_input _ refl)
range_number (UpDown x) = inl (refl, other_input _ refl)
range_number (ForeBack x) = inl (refl, other_input _ refl)
range_number (Brake x) = inl (refl, other_input _ refl)
range_number (Gas x) = inl (refl, other_input _ refl)
range_number (Button limit) = inl (refl, other_input _ refl)
range_number (Gap tenths) = pick_case (OutOfRange (event.Input (Gap tenths))) (eqb tenths 30) 24 3
    (λ t. let e = eqb-true tenths 30 t in inr (refl, ap (λ (n : ℕ). event.Input (Gap n)) e))
    (λ t. inl (refl, λ e. eqb-false tenths 30 t (ap gap_of e)))
range_number (Sign s) = inl (refl, other_input _ refl)
range_number (Radar range speed) = inl (refl, other_input _ refl)

-- what the writing of an event says: its word and that it is in range, or refusal 3 or 24 and that it is not
unfoldable Writes : Event → Answer ℕ → Type 0
Writes e (gives w) = (in_range e ≡ true) × (word_of e ≡ w)
Writes e (refused n) = (in_range e ≡ false) × OutOfRange e n

writes : (e : Event) → Writes e (write_of e)
unfolding Writes write_of in_range word_of
writes (event.Input i) = pick_case (Writes (event.Input i)) (not (input_range i)) _ _ (λ t. (not-true _ t, range_number i)) (λ t. (not-false _ t, refl))
writes (event.Tick ready) = (refl, refl)

-- an event that is written is in range, and the word is its own
pub written_in_range : (e : Event) (w : ℕ) → write_of e ≡ gives w → (in_range e ≡ true) × (word_of e ≡ w)
unfolding Writes
written_in_range e w h = subst (Writes e) h (writes e)

pub in_range_written : (e : Event) → in_range e ≡ true → write_of e ≡ gives (word_of e)
unfolding write_of in_range word_of
in_range_written (event.Input i) h = pick_false _ _ _ (not_of_true _ h)
in_range_written (event.Tick ready) h = refl

-- an event is refused exactly when it is out of range, and the refusal is 3, or 24 of the gap choice 30
pub unwritten_out_of_range : (e : Event) (n : ℕ) → write_of e ≡ refused n → (in_range e ≡ false) × OutOfRange e n
unfolding Writes
unwritten_out_of_range e n h = subst (Writes e) h (writes e)

pub out_of_range_unwritten : (e : Event) → in_range e ≡ false → (e ≡ gap_30 → ⊥) → write_of e ≡ refused 3
out_of_range_unwritten e h other = go (write_of e) refl
  where
    go : (a : Answer ℕ) → write_of e ≡ a → a ≡ refused 3
    go (gives w) q = absurd (true≢false (sym (written_in_range e w q).0 ∙ h))
    go (refused n) q = ⊎_elim (λ r. ap refused r.0) (λ r. absurd (other r.1)) (unwritten_out_of_range e n q).1

pub gap_30_unwritten : write_of gap_30 ≡ refused 24
unfolding write_of input_range permitted_gap range_refusal pick
gap_30_unwritten = refl

-- 24 exactly for the gap choice 30
pub unwritten_24 : (e : Event) → write_of e ≡ refused 24 ↔ e ≡ gap_30
unwritten_24 e = (
  λ h. ⊎_elim (λ r. absurd (omega (arith, r.0))) (λ r. r.1) (unwritten_out_of_range e 24 h).1,
  λ h. ap write_of h ∙ gap_30_unwritten,
)

-- ---- reading
-- a word's refusal by what it reads: 1, 2 or 3, or 24 and the word is that of the gap choice 30
abbrev pub Unread : ℕ → ℕ → Type 0
Unread w n = ((1 ≤ n) × (n ≤ 3)) ⊎ ((n ≡ 24) × (word_of gap_30 ≡ w))

-- what the reading of a word that is no tick says: an input in range that has this word, or its refusal
unfoldable InputReads : ℕ → Answer Input → Type 0
InputReads w (gives i) = (input_range i ≡ true) × (input_word i ≡ w)
InputReads w (refused n) = Unread w n

-- out of range, with the word of its event
ranged_reads : (w : ℕ) (e : Event) (n : ℕ) → OutOfRange e n → word_of e ≡ w → Unread w n
ranged_reads w e n o is = ⊎_elim (λ r. inl (omega (arith, r.0))) (λ r. inr (r.0, ap word_of (sym r.1) ∙ is)) o

judged_reads : (named x w : ℕ) (i : Input) → (x < named → input_word i ≡ w) → InputReads w (judged named x i)
unfolding judged InputReads word_of
judged_reads named x w i h = pick_case (InputReads w) (leb named x) _ _
    (λ t. inl (omega arith))
    (λ t. pick_case (InputReads w) (not (input_range i)) _ _
    (λ u. ranged_reads w (event.Input i) _ (range_number i) (h (leb-false _ _ t))) (λ u. (not-false _ u, h (leb-false _ _ t))))

-- of a word of kind k with the body x
module _ (k x w : ℕ) (is : k * 268435456 + x ≡ w) where
  key_reads : k ≡ 1 → InputReads w (key_word x)
  unfolding key_word input_word
  key_reads e = judged_reads 8 x w _ (λ h. omega (arith, flag_bit (x / 4) (omega arith)))

  radar_reads : k ≡ 9 → InputReads w (radar_word x)
  unfolding radar_word input_word
  radar_reads e = judged_reads 2097152 x w _ (λ h. omega arith)

  -- a kind whose body is one value
  one_reads : (n named : ℕ) (i : Input) → input_word i ≡ n * 268435456 + x → k ≡ n → InputReads w (judged named x i)
  one_reads n named i h q = judged_reads named x w i (λ _. h ∙ omega arith)

  -- one kind of a run of kinds, and those after it
  next_reads : (n : ℕ) (a b : Answer Input) → n ≤ k → (k ≡ n → InputReads w a) → (n + 1 ≤ k → InputReads w b) → InputReads w (pick (eqb k n) a b)
  next_reads n a b h f g = pick_case (InputReads w) (eqb k n) a b (λ t. f (eqb-true k n t)) (λ t. g (let d = eqb-false k n t in omega arith))

  key_on_reads : 4 ≤ k → k < 10 → InputReads w (key_on_of k x)
  unfolding key_on_of input_word
  key_on_reads h u = next_reads 4 _ _ h (one_reads 4 256 (Brake x) refl) (λ h. next_reads 5 _ _ h (one_reads 5 256 (Gas x) refl)
      (λ h. next_reads 6 _ _ h (one_reads 6 8192 (Button x) refl) (λ h. next_reads 7 _ _ h (one_reads 7 32 (Gap x) refl)
      (λ h. next_reads 8 _ _ h (one_reads 8 2048 (Sign x) refl) (λ h. radar_reads (omega arith))))))

  kinds_reads : InputReads w (inputs_of k x)
  unfolding inputs_of input_word InputReads
  kinds_reads = pick_case (InputReads w) (eqb k 1) _ _ (λ t. key_reads (eqb-true k 1 t))
      (λ _. pick_case (InputReads w) (eqb k 2) _ _ (λ t. one_reads 2 8 (UpDown x) refl (eqb-true k 2 t))
      (λ _. pick_case (InputReads w) (eqb k 3) _ _ (λ t. one_reads 3 4 (ForeBack x) refl (eqb-true k 3 t))
      (λ _. pick_case (InputReads w) (leb 4 k && ltb k 10) _ _
      (λ t. key_on_reads (leb-true 4 k (and_l (leb 4 k) (ltb k 10) t)) (ltb-true k 10 (and_r (leb 4 k) (ltb k 10) t)))
      (λ _. inl (omega arith)))))

-- what the reading of a word says: an event in range that has this word, or its refusal
unfoldable Reads : ℕ → Answer Event → Type 0
Reads w (gives e) = (in_range e ≡ true) × (word_of e ≡ w)
Reads w (refused n) = Unread w n

tick_reads : (w : ℕ) → kind_of w ≡ 10 → Reads w (tick_word (body_of w))
unfolding tick_word Reads in_range word_of
tick_reads w e = pick_case (Reads w) (leb 2 (body_of w)) _ _
    (λ t. inl (omega arith))
    (λ t. let h : body_of w < 2 = leb-false 2 (body_of w) t in (refl, omega (arith, flag_bit (body_of w) (omega arith))))

input_reads : (w : ℕ) (a : Answer Input) → InputReads w a → Reads w (input_event a)
unfolding InputReads Reads input_event in_range word_of
input_reads w (gives i) h = h
input_reads w (refused n) h = h

reads : (w : ℕ) → Reads w (read_of w)
unfolding read_of input_of
reads w = pick_case (Reads w) (eqb (kind_of w) 10) _ _
    (λ t. tick_reads w (eqb-true _ _ t))
    (λ _. input_reads w _ (kinds_reads (kind_of w) (body_of w) w (omega arith)))

-- the event of an accepted word is in range, and the word is its own
pub read_own : (w : ℕ) (e : Event) → read_of w ≡ gives e → (in_range e ≡ true) × (word_of e ≡ w)
unfolding Reads
read_own w e h = subst (Reads w) h (reads w)

pub read_in_range : (w : ℕ) (e : Event) → read_of w ≡ gives e → in_range e ≡ true
read_in_range w e h = (read_own w e h).0

-- a refused word is refused with 1, 2 or 3, or with 24 where it is the gap choice 30
pub refused_number : (w n : ℕ) → read_of w ≡ refused n → Unread w n
unfolding Reads
refused_number w n h = subst (Reads w) h (reads w)

pub refused_some : (w n : ℕ) → read_of w ≡ refused n → 1 ≤ n
refused_some w n h = ⊎_elim (λ r. r.0) (λ r. omega (arith, r.0)) (refused_number w n h)

-- 24 exactly for the gap choice 30
pub gap_30_unread : read_of (word_of gap_30) ≡ refused 24
unfolding read_of word_of input_word input_of inputs_of key_on_of judged permitted_gap input_range range_refusal input_event pick
gap_30_unread = refl

pub unread_24 : (w : ℕ) → read_of w ≡ refused 24 ↔ word_of gap_30 ≡ w
unread_24 w = (
  λ h. ⊎_elim (λ r. absurd (omega (arith, r.1))) (λ r. r.1) (refused_number w 24 h),
  λ h. ap read_of (sym h) ∙ gap_30_unread,
)

-- a word read and written again has the same bits
pub read_written : (w : ℕ) (e : Event) → read_of w ≡ gives e → write_of e ≡ gives w
read_written w e h = let p = read_own w e h in in_range_written e p.0 ∙ ap gives p.1

-- ---- a word by its way through the code: a tick is told first
pub read_tick : (w : ℕ) → eqb (kind_of w) 10 ≡ true → read_of w ≡ tick_word (body_of w)
unfolding read_of
read_tick w t = pick_true _ _ _ t

pub read_input : (w : ℕ) → eqb (kind_of w) 10 ≡ false → read_of w ≡ input_event (input_of w)
unfolding read_of
read_input w t = pick_false _ _ _ t

-- check 2
pub unnamed_yes : (n x : ℕ) → (unnamed_of n x ≡ 0 → ⊥) → (unnamed_of n x ≡ 2) × (leb n x ≡ true)
unfolding unnamed_of
unnamed_yes n x = pick_case (λ (r : ℕ). (r ≡ 0 → ⊥) → (r ≡ 2) × (leb n x ≡ true)) (leb n x) _ _ (λ t z. (refl, t)) (λ t z. absurd (z refl))

pub unnamed_no : (n x : ℕ) → unnamed_of n x ≡ 0 → leb n x ≡ false
unfolding unnamed_of
unnamed_no n x = pick_case (λ (r : ℕ). r ≡ 0 → leb n x ≡ false) (leb n x) _ _ (λ t z. absurd (omega arith)) (λ t z. t)

-- ---- written, then read
-- a word of kind k, no tick, whose body x has no unnamed bit, where the kind's input is in range
back : (k named x w : ℕ) (i : Input) → w ≡ k * 268435456 + x → eqb k 10 ≡ false → (x < named) × (named ≤ 268435456)
    → inputs_of k x ≡ judged named x i → input_range i ≡ true → read_of w ≡ gives (event.Input i)
unfolding read_of input_of judged input_event
back k named x w i h t below is r =
    let p : kind_of w ≡ k = omega arith in
    let q : body_of w ≡ x = omega arith in
    rw (p, q) (pick_false _ _ _ t ∙ ap input_event (is ∙ pick_false _ _ _ (lt-leb _ _ below.0) ∙ pick_false _ _ _ (not_of_true _ r)))

key_back : (p : ℕ) (r : Bool) → p ≤ 2 → key_word (p + 4 * bit_of r) ≡ judged 8 (p + 4 * bit_of r) (Key p r)
unfolding key_word
key_back p r h =
    let a : (p + 4 * bit_of r) % 4 ≡ p = omega arith in
    let b : (p + 4 * bit_of r) / 4 ≡ bit_of r = omega arith in
    rw (a, b, bit_flag r)

radar_back : (d s : ℕ) → d ≤ 254 → radar_word (d + 256 * s) ≡ judged 2097152 (d + 256 * s) (Radar d s)
unfolding radar_word
radar_back d s h =
    let a : (d + 256 * s) % 256 ≡ d = omega arith in
    let b : (d + 256 * s) / 256 ≡ s = omega arith in
    rw (a, b)

tick_back : (ready : Bool) → read_of (10 * 268435456 + bit_of ready) ≡ gives (event.Tick ready)
unfolding read_of tick_word
tick_back ready =
    let l = bit_le ready in
    let p : kind_of (10 * 268435456 + bit_of ready) ≡ 10 = omega arith in
    let q : body_of (10 * 268435456 + bit_of ready) ≡ bit_of ready = omega arith in
    rw (p, q) (pick_true _ _ _ refl ∙ pick_false _ _ _ (lt-leb 2 (bit_of ready) (omega arith)) ∙ rw (bit_flag ready))

-- an input in range is what its word is read as
input_read : (i : Input) → input_range i ≡ true → read_of (input_word i) ≡ gives (event.Input i)
unfolding input_range input_word inputs_of key_on_of pick
input_read (Key position ready) h =
    let p = leb-true position 2 h in
    back 1 8 (position + 4 * bit_of ready) _ _ (omega arith) refl (omega (arith, bit_le ready)) (key_back position ready p) h
input_read (UpDown x) h = back 2 8 x _ _ refl refl (omega (arith, leb-true x 4 h)) refl h
input_read (ForeBack x) h = back 3 4 x _ _ refl refl (omega (arith, leb-true x 2 h)) refl h
input_read (Brake x) h = back 4 256 x _ _ refl refl (omega (arith, leb-true x pedal_ceiling h)) refl h
input_read (Gas x) h = back 5 256 x _ _ refl refl (omega (arith, leb-true x pedal_ceiling h)) refl h
input_read (Button limit) h = back 6 8192 limit _ _ refl refl (omega (arith, leb-true limit speed_ceiling h)) refl h
input_read (Gap tenths) h = back 7 32 tenths _ _ refl refl (omega (arith, gap_le tenths h)) refl h
input_read (Sign s) h = back 8 2048 s _ _ refl refl (omega (arith, leb-true s 2000 h)) refl h
input_read (Radar range speed) h =
    let p = radar_le range speed h in
    back 9 2097152 (range + 256 * speed) _ _ (omega arith) refl (omega arith) (radar_back range speed p.0) h

-- an event in range is what its word is read as
pub word_read : (e : Event) → in_range e ≡ true → read_of (word_of e) ≡ gives e
unfolding in_range word_of
word_read (event.Input i) h = input_read i h
word_read (event.Tick ready) h = tick_back ready

-- an event written and read again is the same one
pub written_read : (e : Event) (w : ℕ) → write_of e ≡ gives w → read_of w ≡ gives e
written_read e w h = let p = written_in_range e w h in rw p.1 at (word_read e p.0)

-- a refused word is the word of no event in range
pub refused_no_word : (w n : ℕ) (e : Event) → read_of w ≡ refused n → in_range e ≡ true → word_of e ≡ w → ⊥
refused_no_word w n e h r is = let z : ◌≡◌ {A = ℕ} 0 1 = cc (word_read e r) in omega arith
