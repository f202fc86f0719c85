-- The clean exercise file, from the bytes of a file: document 02, §2, for instructors. `accepted_words` are a list's accepted words from a car, in
-- order.
-- Assumes nothing.
use Rattle.std.specs.Prelude.{List, [], ◌++◌, ℕ, ◌%◌, eqb, ltb, length, take, drop}
use Rattle.kit.specs.Answer.{Answer, gives, refused}
use Rattle.kit.specs.Pick.{pick}
use Rattle.car.specs.declared.Car.{Car}
use Rattle.settings.specs.SettingsWord.{start_of}
use Rattle.history.specs.History.{accepted_words}
use Rattle.wire.specs.Wire.{word_at, words_of, bytes_of}

-- "settings word first, as `lesson` reads it": its fresh car. 17 where it is missing or cut too
unfoldable pub open_of : List ℕ → Answer Car
open_of bs = pick (ltb (length bs) 4) (refused 17) (start_of (word_at bs 0))

-- ---- "the clean exercise file out (settings word, then the accepted words)"; with refused settings "nothing on standard output"
unfoldable pub clean_from : Answer Car → List ℕ → List ℕ
clean_from (gives c) bs = take 4 bs ++ bytes_of (accepted_words c (words_of (drop 4 bs)))
clean_from (refused n) bs = []

unfoldable pub clean_of : List ℕ → List ℕ
clean_of bs = clean_from (open_of bs) bs

-- ---- what is told, 0 for nothing: "`refused 17` .. or, for a cut last word, `refused 21`"
-- by how many bytes are left behind the last whole word
unfoldable pub end_refusal : ℕ → ℕ
end_refusal held = pick (eqb held 0) 0 21

unfoldable pub refusal_from : Answer Car → List ℕ → ℕ
refusal_from (gives c) bs = end_refusal (length bs % 4)
refusal_from (refused n) bs = n

unfoldable pub clean_refusal : List ℕ → ℕ
clean_refusal bs = refusal_from (open_of bs) bs
