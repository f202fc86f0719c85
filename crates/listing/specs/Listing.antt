-- The printed listing: document 01, "The cab, alike, and the program". Text is a list of ASCII codes.
-- Assumes nothing.
use Rattle.std.specs.Prelude.{Bool, ◌||◌, List, [], ◌∷◌, ◌++◌, ℕ, zero, suc, ◌+◌, ◌-◌, ◌*◌, ◌/◌, ◌%◌, ◌^◌, leb, ltb, length}
use Prim.Native.Char.{code}
use Prim.Native.String.{String, [] as []ˢ, ◌∷◌ as ◌∷ˢ◌}
use Rattle.kit.specs.Pick.{pick}
use Rattle.kit.specs.Placed.{placed}
use Rattle.event.specs.Words.{bit_of}
use Rattle.answer.specs.declared.Answer.{Answer}
use Rattle.answer.specs.AnswerWord.{read_of}

-- ---- numbers

abbrev pub digit : ℕ → ℕ
digit d = 48 + d

-- the digits of a number, the fewest, where it has at most `more` after its first
unfoldable pub decimal_in : ℕ → ℕ → List ℕ
decimal_in zero n = digit n ∷ []
decimal_in (suc more) n = pick (ltb n 10) (digit n ∷ []) (decimal_in more (n / 10) ++ digit (n % 10) ∷ [])

-- n has at most n digits after its first
unfoldable pub decimal_of : ℕ → List ℕ
decimal_of n = decimal_in n n

-- a number and a blank
unfoldable pub field_of : ℕ → List ℕ
field_of n = decimal_of n ++ 32 ∷ []

-- a, from its code a + 60, and a blank; below 0 a minus sign and the size
unfoldable pub signed_of : ℕ → List ℕ
signed_of code = pick (ltb code 60) (45 ∷ field_of (60 - code)) (field_of (code - 60))

-- the end of a line: "visual acoustic" and a newline
unfoldable pub warnings_of : ℕ → ℕ → List ℕ
warnings_of visual acoustic = field_of visual ++ decimal_of acoustic ++ 10 ∷ []

-- "event number, refusal, v, D, a, visual, acoustic", from an event's answer word and v
unfoldable pub answer_line : ℕ → Answer → ℕ → List ℕ
answer_line number a v =
    field_of number ++ field_of a.refusal ++ field_of v ++ field_of a.desired ++ signed_of a.acceleration
    ++ warnings_of (bit_of a.visual) (bit_of a.acoustic)

abbrev pub line_of : ℕ → ℕ → ℕ → List ℕ
line_of number word v = answer_line number (read_of word) v

-- a line for each event, the numbers rising by one
unfoldable pub lines_of : ℕ → List ℕ → List ℕ → List ℕ
lines_of first [] vs = []
lines_of first (w ∷ ws) [] = []
lines_of first (w ∷ ws) (v ∷ vs) = line_of first w v ++ lines_of (first + 1) ws vs

-- ---- other lines

-- a text by its codes
unfoldable pub ascii : String → List ℕ
ascii []ˢ = []
ascii (c ∷ˢ s) = code c ∷ ascii s

-- a line of a name and a number
unfoldable pub number_line : List ℕ → ℕ → List ℕ
number_line name n = name ++ decimal_of n ++ ascii "\n"

-- the line of a refusal
unfoldable pub refused_text : ℕ → List ℕ
refused_text n = number_line (ascii "refused ") n

-- the line of a word: its eight digits in hexadecimal, capital letters from ten on
unfoldable pub hex_digit : ℕ → ℕ
hex_digit n = pick (ltb n 10) (48 + n) (55 + n)

unfoldable pub word_line : ℕ → List ℕ
word_line w =
    hex_digit (w / 16 ^ 7) ∷ hex_digit (w / 16 ^ 6 % 16) ∷ hex_digit (w / 16 ^ 5 % 16) ∷ hex_digit (w / 16 ^ 4 % 16) ∷ hex_digit (w / 16 ^ 3 % 16)
    ∷ hex_digit (w / 16 ^ 2 % 16) ∷ hex_digit (w / 16 % 16) ∷ hex_digit (w % 16) ∷ ascii "\n"

-- ---- text in a slice

-- put from index `at` on where so many bytes are left for it, else nothing is put: the index past it, and the slice
unfoldable pub put_past : List ℕ → ℕ → ℕ → List ℕ → ℕ
put_past out at most text = pick (leb (at + most) (length out)) (at + length text) at

unfoldable pub put_after : List ℕ → ℕ → ℕ → List ℕ → List ℕ
put_after out at most text = pick (leb (at + most) (length out)) (placed out at text) out

-- put_lines: 64 bytes for each event; refused where first + the count of events passes 2^64 - 1, or with fewer speeds
unfoldable pub lines_refused : ℕ → List ℕ → List ℕ → Bool
lines_refused first ws vs = ltb 18446744073709551615 (first + length ws) || ltb (length vs) (length ws)

unfoldable pub lines_past : List ℕ → ℕ → ℕ → List ℕ → List ℕ → ℕ
lines_past out at first ws vs = pick (lines_refused first ws vs) at (put_past out at (64 * length ws) (lines_of first ws vs))

unfoldable pub lines_after : List ℕ → ℕ → ℕ → List ℕ → List ℕ → List ℕ
lines_after out at first ws vs = pick (lines_refused first ws vs) out (put_after out at (64 * length ws) (lines_of first ws vs))
