-- Laws of the words of some bytes, and of the bytes of some words.
-- Assumes nothing.
use Rattle.std.specs.Prelude.{◌≡◌, refl, List, [], ◌∷◌, ◌++◌, get_or, drop}
use Rattle.std.proofs.Math.Path.{sym}
use Rattle.std.proofs.Common.{ap, ◌∙◌, not-suc-le-zero, length-take, take_at, length-take-le}
use Prim.Native.Nat.{ℕ, zero, suc, ◌+◌, ◌-◌, ◌*◌, ◌/◌, ◌%◌, ◌^◌, ◌≤◌, ◌<◌, min}
use Rattle.std.proofs.Math.Nat.{div-div-eq-div-mul}
use native.Mathlib.Omega.{arith}
use borrow.Author.Tests.{le-ltb}
use Rattle.std.proofs.Math.ListN.{length, take}
use Rattle.std.proofs.Math.Seq.{take-length}
use Rattle.std.proofs.lemmas.List.{take_min}
use Rattle.kit.specs.Pick.{pick_false}
use Rattle.kit.specs.Placed.{placed, placed_first}
use Rattle.wire.specs.Wire.{joined, word_at, words_of, words_count, words_after, bytes_of, bytes_count, bytes_after, Below}

pub word_within : (bs : List ℕ) (i : ℕ) → i + 4 ≤ length bs → word_at bs i ≡ joined (get_or bs i 0) (get_or bs (i + 1) 0) (get_or bs (i + 2) 0) (get_or bs (i + 3) 0)
unfolding word_at
word_within bs i h = pick_false _ _ _ (le-ltb _ _ h)

-- the first word is the same whatever follows
pub first_kept : (bs more : List ℕ) → 4 ≤ length bs → word_at (bs ++ more) 0 ≡ word_at bs 0
first_kept [] more h = absurd (omega arith)
first_kept (a ∷ []) more h = absurd (omega arith)
first_kept (a ∷ b ∷ []) more h = absurd (omega arith)
first_kept (a ∷ b ∷ c ∷ []) more h = absurd (omega arith)
first_kept (a ∷ b ∷ c ∷ d ∷ bs) more h = word_within _ 0 (omega arith) ∙ sym (word_within (a ∷ b ∷ c ∷ d ∷ bs) 0 h)

pub words_length : (bs : List ℕ) → length (words_of bs) ≡ length bs / 4
unfolding words_of
words_length [] = refl
words_length (a ∷ []) = refl
words_length (a ∷ b ∷ []) = refl
words_length (a ∷ b ∷ c ∷ []) = refl
words_length (a ∷ b ∷ c ∷ d ∷ bs) = omega (arith, words_length bs)

-- the word at an index
pub words_at : (bs : List ℕ) (k : ℕ) → k < length bs / 4
    → get_or (words_of bs) k 0 ≡ joined (get_or bs (4 * k) 0) (get_or bs (4 * k + 1) 0) (get_or bs (4 * k + 2) 0) (get_or bs (4 * k + 3) 0)
unfolding words_of
words_at [] k h = refl
words_at (a ∷ []) k h = absurd (not-suc-le-zero h)
words_at (a ∷ b ∷ []) k h = absurd (not-suc-le-zero h)
words_at (a ∷ b ∷ c ∷ []) k h = absurd (not-suc-le-zero h)
words_at (a ∷ b ∷ c ∷ d ∷ bs) zero h = refl
words_at (a ∷ b ∷ c ∷ d ∷ bs) (suc k) h =
    rw (past (4 * suc k) (4 * k) (omega arith), past (4 * suc k + 1) (4 * k + 1) (omega arith), past (4 * suc k + 2) (4 * k + 2) (omega arith), past (4 * suc k + 3) (4 * k + 3) (omega arith)) (words_at bs k (omega arith))
  where
    past : (i j : ℕ) → i ≡ suc (suc (suc (suc j))) → get_or (a ∷ b ∷ c ∷ d ∷ bs) i 0 ≡ get_or bs j 0
    past i j e = rw e

-- bytes that come in two parts: the words of the first, and those of its rest and the second
pub words_parts : (bs more : List ℕ) → words_of (bs ++ more) ≡ words_of bs ++ words_of (drop (4 * (length bs / 4)) bs ++ more)
unfolding words_of
words_parts [] more = refl
words_parts (a ∷ []) more = refl
words_parts (a ∷ b ∷ []) more = refl
words_parts (a ∷ b ∷ c ∷ []) more = refl
words_parts (a ∷ b ∷ c ∷ d ∷ bs) more =
    let past : 4 * (suc (suc (suc (suc (length bs)))) / 4) ≡ suc (suc (suc (suc (4 * (length bs / 4))))) = omega arith in
    rw past (ap (λ ws. joined a b c d ∷ ws) (words_parts bs more))

-- fewer than four bytes have none
pub few_words : (bs : List ℕ) → length bs ≤ 3 → words_of bs ≡ []
unfolding words_of
few_words [] h = refl
few_words (a ∷ []) h = refl
few_words (a ∷ b ∷ []) h = refl
few_words (a ∷ b ∷ c ∷ []) h = refl
few_words (a ∷ b ∷ c ∷ d ∷ bs) h = absurd (omega arith)

-- ---- words_of: the words that a slice of so many places holds afterwards
module _ (bs z : List ℕ) {most : ℕ} (room : length z ≡ most) {n : ℕ} (count : n ≡ words_count bs z) where
  least : n ≡ min (length (words_of bs)) most
  unfolding words_count
  least = count ∙ rw (room, words_length bs)

  pub count_le : n ≤ most
  count_le = omega (arith, least)

  pub words_taken : {w : List ℕ} → w ≡ words_after bs z → take (n - 0) w ≡ take most (words_of bs)
  unfolding words_after
  words_taken e =
      let whole : n - 0 ≡ n = omega arith in
      let m : n ≡ min most (length (words_of bs)) = omega (arith, least) in
      rw (e, ← count, whole) (take_at _ _ _ (length-take-le n (words_of bs) (omega (arith, least))) ∙ rw m (take_min most (words_of bs)))

  pub taken_le : {w : List ℕ} → w ≡ words_after bs z → length (take (n - 0) w) ≤ most
  taken_le e = rw (words_taken e) (omega (arith, length-take most (words_of bs)))

-- ---- the bytes of some words
pub bytes_length : (ws : List ℕ) → length (bytes_of ws) ≡ 4 * length ws
unfolding bytes_of
bytes_length [] = refl
bytes_length (w ∷ ws) = omega (arith, bytes_length ws)

pub bytes_append : (us vs : List ℕ) → bytes_of (us ++ vs) ≡ bytes_of us ++ bytes_of vs
unfolding bytes_of
bytes_append [] vs = refl
bytes_append (u ∷ us) vs = rw (bytes_append us vs)

four_more : (n : ℕ) → 4 * suc n ≡ suc (suc (suc (suc (4 * n))))
four_more n = omega arith

pub bytes_taken : (n : ℕ) (ws : List ℕ) → take (4 * n) (bytes_of ws) ≡ bytes_of (take n ws)
unfolding bytes_of
bytes_taken zero ws = refl
bytes_taken (suc n) [] = rw (four_more n)
bytes_taken (suc n) (w ∷ ws) = rw (four_more n, bytes_taken n ws)

-- bytes_of where all of the words fit
pub bytes_fit : (ws bytes : List ℕ) → 4 * length ws ≤ length bytes
    → (bytes_count ws bytes ≡ length (bytes_of ws)) × (bytes_after ws bytes ≡ placed bytes 0 (bytes_of ws))
unfolding bytes_count bytes_after
bytes_fit ws bytes h = (rw all, rw (all, take-length (bytes_of ws)) (sym (placed_first bytes (bytes_of ws))))
  where
    all : 4 * min (length ws) (length bytes / 4) ≡ length (bytes_of ws)
    all = omega (arith, bytes_length ws)

-- ---- words of 32 bits
-- the words of bytes are
pub words_below : (bs : List ℕ) → Below 256 bs → Below (2 ^ 32) (words_of bs)
unfolding words_of
words_below [] h = tt
words_below (a ∷ []) h = tt
words_below (a ∷ b ∷ []) h = tt
words_below (a ∷ b ∷ c ∷ []) h = tt
words_below (a ∷ b ∷ c ∷ d ∷ bs) h = (omega arith, words_below bs h.1.1.1.1)

-- such a word is its four bytes joined, division by division
split : (n : ℕ) → n % 256 + n / 256 * 256 ≡ n
split n = omega arith

split_last : (n : ℕ) → n < 65536 → n % 256 + n / 256 % 256 * 256 ≡ n
split_last n h = omega arith

joined_from : (a b c d e f w : ℕ) → a + e * 256 ≡ w → b + f * 256 ≡ e → c + d * 256 ≡ f → joined a b c d ≡ w
joined_from a b c d e f w p q r = omega arith

joined_bytes : (w : ℕ) → w < 2 ^ 32 → joined (w % 256) (w / 256 % 256) (w / 65536 % 256) (w / 16777216 % 256) ≡ w
joined_bytes w h =
    let third : w / 65536 ≡ w / 256 / 256 = sym (div-div-eq-div-mul w 256 256) in
    let fourth : w / 16777216 ≡ w / 256 / 256 / 256 = sym (div-div-eq-div-mul w 65536 256) ∙ ap (λ n. n / 256) third in
    rw (third, fourth) (joined_from _ _ _ _ (w / 256) (w / 256 / 256) w (split w) (split (w / 256)) (split_last (w / 256 / 256) (omega (arith, third))))

-- and such words are the words of their bytes
pub words_bytes : (ws : List ℕ) → Below (2 ^ 32) ws → words_of (bytes_of ws) ≡ ws
unfolding words_of bytes_of
words_bytes [] h = refl
words_bytes (w ∷ ws) h = rw (words_bytes ws h.1, joined_bytes w h.0)

-- the numbers behind the first k
pub below_drop : (n k : ℕ) (xs : List ℕ) → Below n xs → Below n (drop k xs)
below_drop n zero xs h = h
below_drop n (suc k) [] h = h
below_drop n (suc k) (x ∷ xs) h = below_drop n k xs h.1
