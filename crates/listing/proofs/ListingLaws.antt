-- Laws of the listing: digits, the line of a refusal, a text that has room, the printed listing's lines.
-- Assumes nothing.
use Rattle.std.specs.Prelude.{◌≡◌, refl, Bool, true, false, List, [], ◌∷◌, ◌++◌, ℕ, zero, suc, ◌+◌, ◌-◌, ◌*◌, ◌/◌, ◌%◌, ◌^◌, ◌≤◌, ◌<◌, leb, ltb, length, take}
use Rattle.std.proofs.Common.{sym, ap, ◌∙◌, zero-add, pow-suc, arith, lt-ltb, le-ltb, le-leb, leb-true, ltb-true, ltb-false, length-append}
use Rattle.kit.specs.Pick.{pick, pick_true, pick_false, pick_case, either}
use Rattle.kit.specs.Placed.{placed}
use Rattle.event.specs.Words.{bit_of}
use Rattle.answer.specs.AnswerWord.{read_of}
use Rattle.listing.specs.Listing.{digit, decimal_in, decimal_of, field_of, signed_of, warnings_of, answer_line, line_of, ascii, number_line, refused_text, hex_digit, word_line, put_past, put_after}

-- ---- digits

-- more steps than a number has digits change nothing
enough : (j k n : ℕ) → n ≤ j → n ≤ k → decimal_in j n ≡ decimal_in k n
unfolding decimal_in
enough zero zero n h g = refl
enough zero (suc k) n h g = sym (pick_true _ _ _ (lt-ltb n 10 (omega arith)))
enough (suc j) zero n h g = pick_true _ _ _ (lt-ltb n 10 (omega arith))
enough (suc j) (suc k) n h g =
    ap (λ (t : List ℕ). pick (ltb n 10) (digit n ∷ []) (t ++ digit (n % 10) ∷ [])) (enough j k (n / 10) (omega arith) (omega arith))

pub decimal_one : (n : ℕ) → n < 10 → decimal_of n ≡ digit n ∷ []
unfolding decimal_of decimal_in
decimal_one n h = enough n (suc n) n (omega arith) (omega arith) ∙ pick_true _ _ _ (lt-ltb n 10 h)

pub decimal_more : (n : ℕ) → 10 ≤ n → decimal_of n ≡ decimal_of (n / 10) ++ digit (n % 10) ∷ []
unfolding decimal_of decimal_in
decimal_more n h =
    enough n (suc n) n (omega arith) (omega arith)
    ∙ pick_false _ _ _ (le-ltb n 10 h)
    ∙ ap (λ (t : List ℕ). t ++ digit (n % 10) ∷ []) (enough n (n / 10) (n / 10) (omega arith) (omega arith))

-- ---- parts of a line

pub signed_below : (code : ℕ) → code < 60 → signed_of code ≡ 45 ∷ field_of (60 - code)
unfolding signed_of
signed_below code h = pick_true _ _ _ (lt-ltb code 60 h)

pub signed_above : (code : ℕ) → 60 ≤ code → signed_of code ≡ field_of (code - 60)
unfolding signed_of
signed_above code h = pick_false _ _ _ (le-ltb code 60 h)

pub warnings_four : (visual acoustic : ℕ) → visual < 2 → acoustic < 2 → warnings_of visual acoustic ≡ digit visual ∷ 32 ∷ digit acoustic ∷ 10 ∷ []
unfolding warnings_of field_of
warnings_four visual acoustic h g = rw (decimal_one visual (omega arith), decimal_one acoustic (omega arith))

-- the most digits of a number
pub decimal_length : (k n : ℕ) → n < 10 ^ suc k → length (decimal_of n) ≤ suc k
decimal_length zero n h = rw (decimal_one n h) (omega arith)
decimal_length (suc k) n h = go (ltb n 10) refl (decimal_length k (n / 10) (omega (arith, pow-suc 10 (suc k))))
  where
    go : (b : Bool) → ltb n 10 ≡ b → length (decimal_of (n / 10)) ≤ suc k → length (decimal_of n) ≤ suc (suc k)
    go true e g = rw (decimal_one n (ltb-true n 10 e)) (omega arith)
    go false e g = rw (decimal_more n (ltb-false n 10 e)) (simp length-append (omega arith))

-- ---- a line of a name and a number, and that of a refusal
pub line_length : (name : List ℕ) (n : ℕ) → n < 10 ^ 20 → length (number_line name n) ≤ length name + 21
unfolding ascii number_line
line_length name n h = simp length-append (omega (arith, decimal_length 19 n h))

pub refused_length : (n : ℕ) → n < 10 ^ 20 → length (refused_text n) ≤ 29
unfolding ascii refused_text
refused_length n h = line_length (ascii "refused ") n h

-- ---- the line of a word
-- what a digit says
abbrev hex_value : ℕ → ℕ
hex_value d = pick (ltb d 58) (d - 48) (d - 55)

digit_value : (n : ℕ) → n < 16 → hex_value (hex_digit n) ≡ n
unfolding hex_digit
digit_value n h =
    either (ltb n 10)
    (λ t. let l = ltb-true n 10 t in rw (pick_true _ (48 + n) (55 + n) t, pick_true _ (48 + n - 48) (48 + n - 55) (lt-ltb (48 + n) 58 (omega arith))) (omega arith))
    (λ t. let l = ltb-false n 10 t in rw (pick_false _ (48 + n) (55 + n) t, pick_false _ (55 + n - 48) (55 + n - 55) (le-ltb (55 + n) 58 (omega arith))) (omega arith))

-- what digits say behind a number
pub digits_value : ℕ → List ℕ → ℕ
digits_value n [] = n
digits_value n (d ∷ ds) = digits_value (16 * n + hex_value d) ds

-- the line's eight digits say the word
pub word_line_value : (w : ℕ) → w < 2 ^ 32 → digits_value 0 (take 8 (word_line w)) ≡ w
unfolding word_line digits_value
word_line_value w h =
    let a : w / 16 ^ 7 < 16 = omega arith in
    let last : w % 16 < 16 = omega arith in
    let b : 16 * (w / 16 ^ 7) + w / 16 ^ 6 % 16 ≡ w / 16 ^ 6 = omega arith in
    let c : 16 * (w / 16 ^ 6) + w / 16 ^ 5 % 16 ≡ w / 16 ^ 5 = omega arith in
    let d : 16 * (w / 16 ^ 5) + w / 16 ^ 4 % 16 ≡ w / 16 ^ 4 = omega arith in
    let e : 16 * (w / 16 ^ 4) + w / 16 ^ 3 % 16 ≡ w / 16 ^ 3 = omega arith in
    let f : 16 * (w / 16 ^ 3) + w / 16 ^ 2 % 16 ≡ w / 16 ^ 2 = omega arith in
    let g : 16 * (w / 16 ^ 2) + w / 16 % 16 ≡ w / 16 = omega arith in
    let i : 16 * (w / 16) + w % 16 ≡ w = omega arith in
    rw (
      digit_value (w / 16 ^ 7) a,
      digit_value (w / 16 ^ 6 % 16) (omega arith),
      digit_value (w / 16 ^ 5 % 16) (omega arith),
      digit_value (w / 16 ^ 4 % 16) (omega arith),
      digit_value (w / 16 ^ 3 % 16) (omega arith),
      digit_value (w / 16 ^ 2 % 16) (omega arith),
      digit_value (w / 16 % 16) (omega arith),
      digit_value (w % 16) last,
      zero-add (w / 16 ^ 7),
      b,
      c,
      d,
      e,
      f,
      g,
    ) i

-- ---- a text in a slice
-- where there is room for it
pub put_room : (out : List ℕ) (at most : ℕ) (text : List ℕ) → at + most ≤ length out
    → (put_past out at most text ≡ at + length text) × (put_after out at most text ≡ placed out at text)
unfolding put_past put_after
put_room out at most text h = let t = le-leb _ _ h in (pick_true _ _ _ t, pick_true _ _ _ t)

-- the index past it, put or not, lies within the slice
pub past_within : (out : List ℕ) (at most : ℕ) (text : List ℕ) {past : ℕ} → past ≡ put_past out at most text → at ≤ length out → length text ≤ most → past ≤ length out
unfolding put_past
past_within out at most text e h s = rw e (pick_case (λ (n : ℕ). n ≤ length out) (leb (at + most) (length out)) _ _ (λ t. omega (arith, leb-true (at + most) (length out) t)) (λ _. h))

-- ---- the document's own listing

-- lines 1, 4, 5, 7 and 10 of the printed listing, and one at full brake, where the code of a is 0
pub printed_lines :
    (line_of 1 3221233152 0 ≡ ascii "1 0 0 0 0 0 0\n")
    × (line_of 4 3221236992 108 ≡ ascii "4 0 108 0 30 0 0\n")
    × (line_of 5 3221237001 108 ≡ ascii "5 9 108 0 30 0 0\n")
    × (line_of 7 3223006472 108 ≡ ascii "7 8 108 108 30 0 0\n")
    × (line_of 10 3223006464 216 ≡ ascii "10 0 216 108 30 0 0\n")
    × (line_of 1063 3221225472 1178 ≡ ascii "1063 0 1178 0 -60 0 0\n")
unfolding answer_line read_of bit_of field_of signed_of warnings_of decimal_of decimal_in ascii pick
printed_lines = (refl, refl, refl, refl, refl, refl)
