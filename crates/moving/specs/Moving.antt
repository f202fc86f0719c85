-- The moves of the lever that reach a wanted D from the last car of an exercise file, from its bytes: document 02, §13, for exercise writers.
-- `fewest_of` is the answer to a car. Text is a list of ASCII codes.
-- Assumes nothing.
use Rattle.std.specs.Prelude.{List, [], ◌∷◌, ◌++◌, ℕ, ◌%◌, eqb, length, take, drop}
use Rattle.kit.specs.Answer.{Answer, gives, refused}
use Rattle.kit.specs.Pick.{pick}
use Rattle.car.specs.declared.Car.{Car}
use Rattle.car.specs.Lesson.{driven}
use Rattle.wire.specs.Wire.{words_of}
use Rattle.listing.specs.Listing.{ascii, refused_text, word_line}
use Rattle.cleaning.specs.Cleaning.{open_of, end_refusal}
use Rattle.lever.specs.Fewest.{Moves, turned_away}
use Rattle.lever.specs.FewestShape.{fewest_of}

-- ---- its lines
-- "the words that reach it .., one a line in hexadecimal"
unfoldable pub word_lines : List ℕ → List ℕ
word_lines [] = []
word_lines (w ∷ ws) = word_line w ++ word_lines ws

-- "or the refusal in a sentence": those that a file can come to, and the line of the number for any other
unfoldable pub sentence : ℕ → List ℕ
sentence n =
    pick (eqb n 17) (ascii "refused 17: the file does not start with a settings word\n")
    (pick (eqb n 21) (ascii "refused 21: the file ends inside a word\n")
    (pick (eqb n 25) (ascii "refused 25: cruise is off or a lever is out of neutral\n")
    (pick (eqb n 26) (ascii "refused 26: no list of at most six lever words gives that speed\n")
    (refused_text n))))

-- ---- at the end of the file, after which so many bytes are left behind the last whole word: 21 for some, else the answer to its last car
unfoldable pub end_answer : ℕ → Car → ℕ → Moves
end_answer wanted c held = pick (eqb (end_refusal held) 0) (fewest_of c wanted) (turned_away (end_refusal held))

unfoldable pub answer_text : Moves → List ℕ
answer_text m = pick (eqb m.refusal 0) (word_lines (take m.count m.words)) (sentence m.refusal)

unfoldable pub end_text : ℕ → Car → ℕ → List ℕ
end_text wanted c held = answer_text (end_answer wanted c held)

-- ---- the text of a file: 17 alone where it does not start with a settings word
unfoldable pub moves_from : ℕ → Answer Car → List ℕ → List ℕ
moves_from wanted (gives c) bs = end_text wanted (driven c (words_of (drop 4 bs))) (length bs % 4)
moves_from wanted (refused n) bs = sentence n

unfoldable pub moves_text : ℕ → List ℕ → List ℕ
moves_text wanted bs = moves_from wanted (open_of bs) bs
