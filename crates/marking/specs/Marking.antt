-- The mark of an exercise file, from its bytes: document 02, §5, for instructors. `passed_of` is the event that passed the mark, `seconds_of` the seconds
-- that ended at or above it. Text is a list of ASCII codes.
-- Assumes nothing.
use Rattle.std.specs.Prelude.{Some, None, List, [], ◌++◌, ℕ, ◌%◌, eqb, length, drop}
use Rattle.kit.specs.Answer.{Answer, gives, refused}
use Rattle.kit.specs.Pick.{pick}
use Rattle.car.specs.declared.Car.{Car}
use Rattle.car.specs.Mark.{seconds_of}
use Rattle.passing.specs.Passing.{Passed, passed_of}
use Rattle.wire.specs.Wire.{words_of}
use Rattle.listing.specs.Listing.{ascii, number_line, refused_text}
use Rattle.cleaning.specs.Cleaning.{open_of, end_refusal}

-- ---- its lines
-- "the number of the event", or "never"
unfoldable pub passed_text : Passed → List ℕ
passed_text (Some n) = number_line (ascii "event ") n
passed_text None = ascii "never\n"

unfoldable pub seconds_text : ℕ → List ℕ
seconds_text n = number_line (ascii "seconds ") n

-- a refusal, 0 for none
unfoldable pub refusal_text : ℕ → List ℕ
refusal_text n = pick (eqb n 0) [] (refused_text n)

-- all three
unfoldable pub result_text : Passed → ℕ → ℕ → List ℕ
result_text passed seconds refusal = passed_text passed ++ seconds_text seconds ++ refusal_text refusal

-- ---- the text of a file: with a settings word its result and, for a cut last word, `refused 21`; else `refused 17` alone
unfoldable pub mark_from : ℕ → Answer Car → List ℕ → List ℕ
mark_from mark (gives c) bs = result_text (passed_of mark c (words_of (drop 4 bs))) (seconds_of mark c (words_of (drop 4 bs))) (end_refusal (length bs % 4))
mark_from mark (refused n) bs = refused_text n

unfoldable pub mark_text : ℕ → List ℕ → List ℕ
mark_text mark bs = mark_from mark (open_of bs) bs
