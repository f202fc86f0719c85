-- The layout's laws: fields joined into a word are found in it again, and a word is its fields joined.
-- Assumes nothing.
use Rattle.std.specs.Prelude.{Bool, true, false, List, [], ◌∷◌, ◌≡◌, refl, ℕ, zero, suc, ◌+◌, ◌-◌, ◌*◌, ◌/◌, ◌%◌, ◌^◌, ◌≤◌, ◌<◌, eqb, length, drop, get_or}
use Rattle.std.proofs.Common.{sym, ap, ◌∙◌, zero-add, add-zero, add-suc, suc-add, arith, drop_of_length-le, pow-add, pow_mono, pow_pos, drop-cons, eqb-true}
use Rattle.std.proofs.Math.Arith.{digits_lt}
use Rattle.std.proofs.Math.Pow.{low, high}
use Rattle.std.proofs.lemmas.Nat.{mod-pow-add}
use Rattle.std.proofs.lemmas.Bool.{eqb-false}
use Rattle.kit.specs.Pick.{pick, pick_case}
use Rattle.event.specs.Words.{bit_of}
use Rattle.event.proofs.WordLaws.{bit_flag, gap_le}
use Rattle.car.specs.declared.Car.{Car}
use Rattle.car.specs.Good.{good_of}
use Rattle.car.proofs.GoodLaws.{good, ceiling_le}
use Rattle.record.specs.LayoutShape.{Fits}
use Rattle.record.specs.Layout.{Field, layout, mark_of, place_of, named, unnamed_of, joined, headed, words_from, packed, fields, fields_from, car_of, unpacked}

-- ---- widths
pub good_fits : (c : Car) → good_of c ≡ true → Fits c
good_fits c h =
    let g = good c h in
    let t = g.lever_time in
    let r = g.ranges in
    let d = ceiling_le c.settings in
    let e = gap_le c.gap r.gap in
    record {
      mode = omega arith;
      key = omega arith;
      updown = omega arith;
      foreback = omega arith;
      brake = omega arith;
      gas = omega arith;
      speed = omega arith;
      limit = omega arith;
      desired = omega arith;
      manual = omega arith;
      time = omega arith;
      base = omega arith;
      range = omega arith;
      lead = omega arith;
      earlier = omega arith;
      gap = omega arith;
      now = omega arith;
      tested = omega arith;
    }

-- so does each number that words give
pub unpacked_fits : (ws : List ℕ) → Fits (unpacked ws)
unfolding unpacked car_of
unpacked_fits ws =
    record {
      mode = omega arith;
      key = omega arith;
      updown = omega arith;
      foreback = omega arith;
      brake = omega arith;
      gas = omega arith;
      speed = omega arith;
      limit = omega arith;
      desired = omega arith;
      manual = omega arith;
      time = omega arith;
      base = omega arith;
      range = omega arith;
      lead = omega arith;
      earlier = omega arith;
      gap = omega arith;
      now = omega arith;
      tested = omega arith;
    }

-- ---- the rows of a layout, from a place on
abbrev Rows : (ℕ → List Field → Type 0) → ℕ → List (List Field) → Type 0
Rows P place [] = Unit {0}
Rows P place (fs ∷ rows) = P place fs × Rows P (suc place) rows

rows_at : (P : ℕ → List Field → Type 0) (place : ℕ) (rows : List (List Field)) → Rows P place rows
    → (k : ℕ) → k < length rows → P (place + k) (get_or rows k [])
rows_at P place [] h k l = absurd (omega arith)
rows_at P place (fs ∷ rows) h zero l = rw add-zero h.0
rows_at P place (fs ∷ rows) h (suc k) l = rw add-suc (rw suc-add at (rows_at P (suc place) rows h.1 k (omega arith)))

at_rows : (P : ℕ → List Field → Type 0) (place : ℕ) (rows : List (List Field))
    → ((k : ℕ) → k < length rows → P (place + k) (get_or rows k [])) → Rows P place rows
at_rows P place [] h = tt
at_rows P place (fs ∷ rows) h =
    (rw add-zero at (h 0 (omega arith)), at_rows P (suc place) rows (λ k l. rw suc-add (rw add-suc at (h (suc k) (omega arith)))))

-- each value of a row fits its width
abbrev Fitting : Car → List Field → Type 0
Fitting c [] = Unit {0}
Fitting c (f ∷ fs) = (f.value c < 2 ^ f.width) × Fitting c fs

bit_lt : (b : Bool) → bit_of b < 2
unfolding bit_of pick
bit_lt true = omega arith
bit_lt false = omega arith

fits_rows : (c : Car) → Fits c → Rows (λ p fs. Fitting c fs) 0 layout
fits_rows c f = search bit_lt depth 40 fits 4000

-- the names leave the place and the mark alone
short_rows : Rows (λ p fs. named fs ≤ 24) 0 layout
short_rows = search arith depth 40 fits 4000

-- ---- one row
abbrev values_of : Car → List Field → List ℕ
values_of c [] = []
values_of c (f ∷ fs) = f.value c ∷ values_of c fs

regroup : (v m j n r : ℕ) → v + m * j + n * m * r ≡ (j + n * r) * m + v
regroup v m j n r = omega arith

-- what was joined is found again, whatever stands above it
fields_joined : (c : Car) (fs : List Field) (r : ℕ) → Fitting c fs → fields fs (joined c fs + 2 ^ named fs * r) ≡ values_of c fs
fields_joined c [] r h = refl
fields_joined c (f ∷ fs) r h =
    let e : joined c (f ∷ fs) + 2 ^ named (f ∷ fs) * r ≡ (joined c fs + 2 ^ named fs * r) * 2 ^ f.width + f.value c =
    rw (pow-add 2 (named fs) f.width) (regroup (f.value c) (2 ^ f.width) (joined c fs) (2 ^ named fs) r) in
    rw (e, low (joined c fs + 2 ^ named fs * r) f.width h.0, high (joined c fs + 2 ^ named fs * r) f.width h.0, fields_joined c fs r h.1)

-- a word's fields joined are its named bits
joined_fields : (c : Car) (fs : List Field) (w : ℕ) → values_of c fs ≡ fields fs w → joined c fs ≡ w % 2 ^ named fs
joined_fields c [] w e = omega arith
joined_fields c (f ∷ fs) w e =
    let p : f.value c ≡ w % 2 ^ f.width = cc in
    let q : values_of c fs ≡ fields fs (w / 2 ^ f.width) = cc in
    rw (mod-pow-add w (named fs) f.width, p, joined_fields c fs (w / 2 ^ f.width) q) (omega arith)

joined_lt : (c : Car) (fs : List Field) → Fitting c fs → joined c fs < 2 ^ named fs
joined_lt c [] h = omega arith
joined_lt c (f ∷ fs) h =
    let d = digits_lt (joined_lt c fs h.1) h.0 in
    rw (pow-add 2 (named fs) f.width) (omega arith)

-- ---- the mark and the place above a row; 176 is the mark 11 above four bits for the place
scaled : (m a b place body : ℕ) → m ≡ a * b → 176 * m + place * m + body ≡ a * (176 + place) * b + body
scaled m a b place body e = rw e (omega arith)

pow_split : (n : ℕ) → n ≤ 24 → 2 ^ 24 ≡ 2 ^ (24 - n) * 2 ^ n
pow_split n h = let e : (24 - n) + n ≡ 24 = omega arith in ap (λ (k : ℕ). 2 ^ k) (sym e) ∙ pow-add 2 (24 - n) n

-- a word as its lowest n bits and what stands above them
headed_is : (place body n : ℕ) → n ≤ 24 → headed place body ≡ 2 ^ (24 - n) * (176 + place) * 2 ^ n + body
headed_is place body n h = scaled (2 ^ 24) (2 ^ (24 - n)) (2 ^ n) place body (pow_split n h)

headed_fields : (c : Car) (place : ℕ) (fs : List Field) → named fs ≤ 24 → Fitting c fs → fields fs (headed place (joined c fs)) ≡ values_of c fs
headed_fields c place fs h f =
    let e : headed place (joined c fs) ≡ joined c fs + 2 ^ named fs * (2 ^ (24 - named fs) * (176 + place)) =
    headed_is place (joined c fs) (named fs) h ∙ omega arith in
    rw e (fields_joined c fs _ f)

-- a word with its mark and its place and no unnamed bit set is its named bits under them
unnamed_zero : (fs : List Field) (w : ℕ) → named fs ≤ 24 → unnamed_of fs w ≡ 0 → w % 2 ^ 24 ≡ w % 2 ^ named fs
unnamed_zero fs w h z =
    let e : (24 - named fs) + named fs ≡ 24 = omega arith in
    ap (λ (k : ℕ). w % 2 ^ k) (sym e)
    ∙ mod-pow-add w (24 - named fs) (named fs)
    ∙ ap (λ (k : ℕ). k * 2 ^ named fs + w % 2 ^ named fs) z
    ∙ omega arith

word_is : (place w : ℕ) (fs : List Field) → named fs ≤ 24 → mark_of w ≡ 11 → place_of w ≡ place → unnamed_of fs w ≡ 0 → headed place (w % 2 ^ named fs) ≡ w
word_is place w fs h m p z = rw (← unnamed_zero fs w h z) (omega arith)

-- the mark, the place and the unnamed bits of a car's word
module _ (place body : ℕ) (fs : List Field) (h : named fs ≤ 24) (b : body < 2 ^ named fs) where
  headed_mark : place < 12 → mark_of (headed place body) ≡ 11
  headed_mark p = let m = pow_mono h in omega arith

  headed_place : place < 12 → place_of (headed place body) ≡ place
  headed_place p = let m = pow_mono h in omega arith

  headed_unnamed : unnamed_of fs (headed place body) ≡ 0
  headed_unnamed =
      let e : 2 ^ (24 - named fs) * (176 + place) ≡ (176 + place) * 2 ^ (24 - named fs) + 0 = omega arith in
      rw (headed_is place body (named fs) h, high (2 ^ (24 - named fs) * (176 + place)) (named fs) b, e) (low (176 + place) (24 - named fs) (pow_pos (24 - named fs)))

-- ---- a car's words, and the car that words give
-- the words at their places are those of a car
abbrev Holds : Car → List ℕ → ℕ → List Field → Type 0
Holds c ws place fs = headed place (joined c fs) ≡ get_or ws place 0

abbrev values_from : Car → List (List Field) → List (List ℕ)
values_from c [] = []
values_from c (fs ∷ rows) = values_of c fs ∷ values_from c rows

words_are : (c : Car) (ws : List ℕ) (place : ℕ) (rows : List (List Field)) → place + length rows ≡ length ws
    → Rows (Holds c ws) place rows → words_from c place rows ≡ drop place ws
words_are c ws place [] l h = sym (drop_of_length-le ws {i = place} (omega arith))
words_are c ws place (fs ∷ rows) l h = rw (drop-cons ws place 0 (omega arith), h.0, words_are c ws (suc place) rows (omega arith) h.1)

values_are : (c : Car) (ws : List ℕ) (place : ℕ) (rows : List (List Field)) → Rows (λ p fs. named fs ≤ 24) place rows
    → Rows (λ p fs. Fitting c fs) place rows → Rows (Holds c ws) place rows → fields_from place rows ws ≡ values_from c rows
values_are c ws place [] n f h = refl
values_are c ws place (fs ∷ rows) n f h =
    rw (← h.0, headed_fields c place fs n.0 f.0, values_are c ws (suc place) rows n.1 f.1 h.1)

packed_holds : (c : Car) → Rows (Holds c (packed c)) 0 layout
unfolding packed
packed_holds c = search tt depth 40

flag_bit : (n : ℕ) → bit_of (eqb (n % 2) 1) ≡ n % 2
unfolding bit_of
flag_bit n = pick_case (λ (b : ℕ). b ≡ n % 2) (eqb (n % 2) 1) 1 0 (λ t. sym (eqb-true _ 1 t)) (λ t. let f = eqb-false (n % 2) 1 t in omega arith)

car_values : (c : Car) → car_of (values_from c layout) ≡ c
unfolding car_of
car_values c = simp bit_flag

-- a car whose numbers fit is found again in its words
pub unpacked_packed : (c : Car) → Fits c → unpacked (packed c) ≡ c
unfolding unpacked
unpacked_packed c f = ap car_of (values_are c (packed c) 0 layout short_rows (fits_rows c f) (packed_holds c)) ∙ car_values c

-- the values of the car that words give are the words' fields
unpacked_values : (ws : List ℕ) → values_from (unpacked ws) layout ≡ fields_from 0 layout ws
unfolding unpacked car_of
unpacked_values ws = simp flag_bit

-- a word of its own mark and place with no unnamed bit set
abbrev pub Marked : List ℕ → ℕ → List Field → Type 0
Marked ws place fs = (mark_of (get_or ws place 0) ≡ 11) × (place_of (get_or ws place 0) ≡ place) × (unnamed_of fs (get_or ws place 0) ≡ 0)

marked_holds : (c : Car) (ws : List ℕ) (place : ℕ) (rows : List (List Field)) → Rows (λ p fs. named fs ≤ 24) place rows
    → values_from c rows ≡ fields_from place rows ws → Rows (Marked ws) place rows → Rows (Holds c ws) place rows
marked_holds c ws place [] n v m = tt
marked_holds c ws place (fs ∷ rows) n v m =
    let p : values_of c fs ≡ fields fs (get_or ws place 0) = cc in
    let q : values_from c rows ≡ fields_from (suc place) rows ws = cc in (
      rw (joined_fields c fs (get_or ws place 0) p) (word_is place (get_or ws place 0) fs n.0 m.0.0 m.0.1 m.0.2),
      marked_holds c ws (suc place) rows n.1 q m.1,
    )

-- twelve words with their marks and places and no unnamed bit set are the words of the car that they give
pub packed_unpacked : (ws : List ℕ) → length ws ≡ 12 → ((p : ℕ) → p < 12 → Marked ws p (get_or layout p [])) → packed (unpacked ws) ≡ ws
unfolding packed
packed_unpacked ws l m =
    words_are (unpacked ws) ws 0 layout (sym l)
    (marked_holds (unpacked ws) ws 0 layout short_rows (unpacked_values ws) (at_rows (Marked ws) 0 layout (λ k h. rw zero-add (m k h))))

-- the words of a car whose numbers fit have their marks and places and no unnamed bit set
pub packed_marked : (c : Car) → Fits c → (p : ℕ) → p < 12 → Marked (packed c) p (get_or layout p [])
packed_marked c f p h =
    let fs = get_or layout p [] in
    let n : named fs ≤ 24 = rows_at (λ p fs. named fs ≤ 24) 0 layout short_rows p h in
    let b : joined c fs < 2 ^ named fs = joined_lt c fs (rows_at (λ p fs. Fitting c fs) 0 layout (fits_rows c f) p h) in
    let e : Holds c (packed c) p fs = rw zero-add at (rows_at (Holds c (packed c)) 0 layout (packed_holds c) p h) in
    rw (← e) (headed_mark p (joined c fs) fs n b h, headed_place p (joined c fs) fs n b h, headed_unnamed p (joined c fs) fs n b)

pub packed_length : (c : Car) → length (packed c) ≡ 12
unfolding packed
packed_length c = refl
