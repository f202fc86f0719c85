-- What an answer says in the document's terms: a value, or the number of a refusal. Document 01, "Forms we want to see": "Where an
-- answer is an enum, a definition gives this paper's number and values for each of its cases, and the promises use that definition."
-- Each enum of the code has that definition beside it, by the same name (`fresh_answer`, `reading_answer`, ..).
-- Assumes nothing.
use Rattle.std.specs.Prelude.{ℕ}

pub data Answer (A : Type 0) : Type 0 where
  gives : A → Answer A
  refused : ℕ → Answer A

-- the refusal's number, 0 for none
unfoldable pub number_of : {A : Type 0} → Answer A → ℕ
number_of (gives a) = 0
number_of (refused n) = n
