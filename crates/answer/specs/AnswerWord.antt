-- The answer word: document 01, "A lesson": "kind 12, bits 0-4 refusal or 0, 5 visual, 6 acoustic, 7-13 a + 60, 14-24 D, the rest 0".
-- Assumes nothing.
use Rattle.std.specs.Prelude.{ℕ, ◌+◌, ◌*◌, ◌/◌, ◌%◌, ◌^◌, ◌≤◌, ◌≡◌, eqb}
use Rattle.event.specs.Words.{bit_of}
use Rattle.answer.specs.declared.Answer.{Answer}

unfoldable pub word_of : Answer → ℕ
word_of a =
    12 * 2 ^ 28 + a.refusal + 2 ^ 5 * bit_of a.visual + 2 ^ 6 * bit_of a.acoustic + 2 ^ 7 * a.acceleration + 2 ^ 14 * a.desired

-- the fields that a word's bits say
unfoldable pub read_of : ℕ → Answer
read_of w =
    record {
      refusal = w % 2 ^ 5;
      visual = eqb (w / 2 ^ 5 % 2) 1;
      acoustic = eqb (w / 2 ^ 6 % 2) 1;
      acceleration = w / 2 ^ 7 % 2 ^ 7;
      desired = w / 2 ^ 14 % 2 ^ 11;
    }

-- fields that fit their bits
pub record Fits (a : Answer) : Type 0 where
  pub refusal : a.refusal ≤ 31
  pub acceleration : a.acceleration ≤ 127
  pub desired : a.desired ≤ 2047

-- a word that is an answer word: of 32 bits, of kind 12, "the rest 0"
pub record Answers (w : ℕ) : Type 0 where
  pub kind : w / 2 ^ 28 ≡ 12
  pub zeros : w / 2 ^ 25 % 2 ^ 3 ≡ 0

-- the same figures with another refusal
unfoldable pub with_refusal : Answer → ℕ → Answer
with_refusal a n = record { refusal = n; visual = a.visual; acoustic = a.acoustic; acceleration = a.acceleration; desired = a.desired }
