-- A record written and read: document 01, "The record", with document 02's §12, and refusals 18 and 20.
-- Assumes nothing.
use Rattle.std.specs.Prelude.{Bool, Result, Ok, Err, true, false, ◌&&◌, List, [], ◌∷◌, ◌++◌, ℕ, eqb, ltb, length, drop, replicate}
use Rattle.kit.specs.Answer.{Answer, gives, refused}
use Rattle.kit.specs.Pick.{pick}
use Rattle.event.specs.declared.refusal.Refusal.{Refusal}
use Rattle.event.specs.Refusal.{refusal_number}
use Rattle.car.specs.declared.Car.{Car}
use Rattle.car.specs.Car.{with_gap}
use Rattle.car.specs.Good.{good_of}
use Rattle.record.specs.Layout.{packed, unpacked}

-- the same words in the same places
unfoldable pub same_words : List ℕ → List ℕ → Bool
same_words [] [] = true
same_words [] (b ∷ bs) = false
same_words (a ∷ as') [] = false
same_words (a ∷ as') (b ∷ bs) = eqb a b && same_words as' bs

-- the refusal or 0, and the words
pub record Written : Type 0 where
  pub refusal : ℕ
  pub words : List ℕ

-- what a result says: the words, or the refusal and zeros
abbrev pub written_answer : Result (List ℕ) Refusal → Written
written_answer (Ok words) = record { refusal = 0; words = words }
written_answer (Err r) = record { refusal = refusal_number r; words = replicate 12 0 }

-- 18: "a car handed in that no accepted record gives (.. an array answer all 0)"
unfoldable pub write_of : Car → Written
write_of c = pick (good_of c) (record { refusal = 0; words = packed c }) (record { refusal = 18; words = replicate 12 0 })

-- "A record that holds 30 is still accepted and gives a car with 25"
unfoldable pub offered : Car → Car
offered c = pick (eqb c.gap 30) (with_gap c 25) c

-- the car that the words' fields say, with 25 for the gap 30, where it is good and the words are those of the fields; `Accepted` says the same in the
-- document's words. 18: "a record not of 12 words or not accepted (no car)"
unfoldable pub read_of : List ℕ → Answer Car
read_of ws = pick (good_of (offered (unpacked ws)) && same_words (packed (unpacked ws)) ws) (gives (offered (unpacked ws))) (refused 18)

-- into a buffer: 18, then "20 record buffer under 12 words, kept; in a longer one the words past the twelfth are kept"
unfoldable pub saved_refusal : Car → List ℕ → ℕ
saved_refusal c buffer = pick (good_of c) (pick (ltb (length buffer) 12) 20 0) 18

unfoldable pub saved_buffer : Car → List ℕ → List ℕ
saved_buffer c buffer = pick (good_of c) (pick (ltb (length buffer) 12) buffer (packed c ++ drop 12 buffer)) buffer
