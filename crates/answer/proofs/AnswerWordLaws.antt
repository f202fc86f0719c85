-- Laws of the answer word: written and read again, read and written again.
-- Assumes nothing.
use Rattle.std.specs.Prelude.{◌≡◌, ℕ, ◌+◌, ◌*◌, ◌/◌, ◌%◌, ◌^◌, ◌<◌}
use Rattle.std.proofs.Common.{arith}
use Rattle.std.proofs.Math.Dec.{eqb}
use Rattle.event.specs.Words.{bit_of}
use Rattle.event.proofs.WordLaws.{bit_le, bit_flag, flag_bit}
use Rattle.answer.specs.declared.Answer.{Answer}
use Rattle.answer.specs.AnswerWord.{word_of, read_of, Fits, Answers, with_refusal}

module _ (a : Answer) (f : Fits a) where
  -- it fits 32 bits, is of kind 12, and the rest is 0
  pub word_fits : word_of a < 2 ^ 32
  unfolding word_of
  word_fits = omega (arith, f.refusal, f.acceleration, f.desired, bit_le a.visual, bit_le a.acoustic)

  pub word_answers : Answers (word_of a)
  unfolding word_of
  word_answers =
      let v = bit_le a.visual in
      let s = bit_le a.acoustic in
      record { kind = omega (arith, f.refusal, f.acceleration, f.desired); zeros = omega (arith, f.refusal, f.acceleration, f.desired) }

  pub is_refusal : word_of a % 2 ^ 5 ≡ a.refusal
  unfolding word_of
  is_refusal = omega (arith, f.refusal)

  pub is_visual : word_of a / 2 ^ 5 % 2 ≡ bit_of a.visual
  unfolding word_of
  is_visual = omega (arith, f.refusal, bit_le a.visual)

  pub is_acoustic : word_of a / 2 ^ 6 % 2 ≡ bit_of a.acoustic
  unfolding word_of
  is_acoustic = omega (arith, f.refusal, bit_le a.visual, bit_le a.acoustic)

  pub is_acceleration : word_of a / 2 ^ 7 % 2 ^ 7 ≡ a.acceleration
  unfolding word_of
  is_acceleration = omega (arith, f.refusal, f.acceleration, bit_le a.visual, bit_le a.acoustic)

  pub is_desired : word_of a / 2 ^ 14 % 2 ^ 11 ≡ a.desired
  unfolding word_of
  is_desired = omega (arith, f.refusal, f.acceleration, f.desired, bit_le a.visual, bit_le a.acoustic)

  -- written and read again
  pub written_read : read_of (word_of a) ≡ a
  unfolding read_of
  written_read =
      let v : eqb (word_of a / 2 ^ 5 % 2) 1 ≡ a.visual = rw is_visual (bit_flag a.visual) in
      let s : eqb (word_of a / 2 ^ 6 % 2) 1 ≡ a.acoustic = rw is_acoustic (bit_flag a.acoustic) in
      simp (is_refusal, v, s, is_acceleration, is_desired)

-- a word by its parts, from bit 0 up
joined : (w r x₁ v x₂ s x₃ a x₄ d x₅ : ℕ) → w ≡ r + 2 ^ 5 * x₁ → x₁ ≡ v + 2 * x₂ → x₂ ≡ s + 2 * x₃ → x₃ ≡ a + 2 ^ 7 * x₄ → x₄ ≡ d + 2 ^ 11 * x₅
    → x₅ ≡ 2 ^ 3 * 12 → 12 * 2 ^ 28 + r + 2 ^ 5 * v + 2 ^ 6 * s + 2 ^ 7 * a + 2 ^ 14 * d ≡ w
joined w r x₁ v x₂ s x₃ a x₄ d x₅ e₁ e₂ e₃ e₄ e₅ e₆ = omega arith

-- an answer word read and written again has the same bits
pub read_written : (w : ℕ) → Answers w → word_of (read_of w) ≡ w
unfolding word_of read_of
read_written w a =
    rw (flag_bit (w / 2 ^ 5 % 2) (omega arith), flag_bit (w / 2 ^ 6 % 2) (omega arith))
    (joined w _ (w / 2 ^ 5) _ (w / 2 ^ 6) _ (w / 2 ^ 7) _ (w / 2 ^ 14) _ (w / 2 ^ 25) p₁ p₂ p₃ p₄ p₅ p₆)
  where
    p₁ : w ≡ w % 2 ^ 5 + 2 ^ 5 * (w / 2 ^ 5)
    p₁ = omega arith

    p₂ : w / 2 ^ 5 ≡ w / 2 ^ 5 % 2 + 2 * (w / 2 ^ 6)
    p₂ = omega arith

    p₃ : w / 2 ^ 6 ≡ w / 2 ^ 6 % 2 + 2 * (w / 2 ^ 7)
    p₃ = omega arith

    p₄ : w / 2 ^ 7 ≡ w / 2 ^ 7 % 2 ^ 7 + 2 ^ 7 * (w / 2 ^ 14)
    p₄ = omega arith

    p₅ : w / 2 ^ 14 ≡ w / 2 ^ 14 % 2 ^ 11 + 2 ^ 11 * (w / 2 ^ 25)
    p₅ = omega arith

    p₆ : w / 2 ^ 25 ≡ 2 ^ 3 * 12
    p₆ = omega (arith, a.kind, a.zeros)

pub read_fits : (w : ℕ) → Fits (read_of w)
unfolding read_of
read_fits w = record { refusal = omega arith; acceleration = omega arith; desired = omega arith }

-- a refusal is added to a word with none
pub refused_word : (a : Answer) (n : ℕ) → a.refusal ≡ 0 → word_of a + n ≡ word_of (with_refusal a n)
unfolding word_of with_refusal
refused_word a n z = omega arith
