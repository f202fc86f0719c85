-- Little-endian words: document 01, "The cab, alike, and the program".
-- Assumes nothing.
use Rattle.std.specs.Prelude.{ℕ, ◌+◌, ◌*◌, ◌/◌, ◌%◌, ◌<◌, min, List, [], ◌∷◌, ◌++◌, ltb, length, get_or, take, drop}
use Rattle.kit.specs.Pick.{pick}

-- four bytes, the lowest first
abbrev pub joined : ℕ → ℕ → ℕ → ℕ → ℕ
joined a b c d = a + b * 256 + c * 65536 + d * 16777216

-- the word whose first byte stands at an index, or 0 where it does not lie within the bytes
unfoldable pub word_at : List ℕ → ℕ → ℕ
word_at bs i =
    pick (ltb (length bs) (i + 4)) 0
    (joined (get_or bs i 0) (get_or bs (i + 1) 0) (get_or bs (i + 2) 0) (get_or bs (i + 3) 0))

-- the whole words of the bytes
unfoldable pub words_of : List ℕ → List ℕ
words_of [] = []
words_of (a ∷ []) = []
words_of (a ∷ b ∷ []) = []
words_of (a ∷ b ∷ c ∷ []) = []
words_of (a ∷ b ∷ c ∷ d ∷ bs) = joined a b c d ∷ words_of bs

-- how many of them fit, and the slice with those in front: the rest of it is kept
unfoldable pub words_count : List ℕ → List ℕ → ℕ
words_count bs words = min (length bs / 4) (length words)

unfoldable pub words_after : List ℕ → List ℕ → List ℕ
words_after bs words = take (words_count bs words) (words_of bs) ++ drop (words_count bs words) words

-- ---- words as bytes
-- each word as its four bytes
unfoldable pub bytes_of : List ℕ → List ℕ
bytes_of [] = []
bytes_of (w ∷ ws) = w % 256 ∷ w / 256 % 256 ∷ w / 65536 % 256 ∷ w / 16777216 % 256 ∷ bytes_of ws

-- how many bytes the words that fit have, and the slice with those in front: the rest of it is kept
unfoldable pub bytes_count : List ℕ → List ℕ → ℕ
bytes_count ws bytes = 4 * min (length ws) (length bytes / 4)

unfoldable pub bytes_after : List ℕ → List ℕ → List ℕ
bytes_after ws bytes = take (bytes_count ws bytes) (bytes_of ws) ++ drop (bytes_count ws bytes) bytes

-- each number of a list is below a bound: bytes are below 2^8, words below 2^32
abbrev pub Below : ℕ → List ℕ → Type 0
Below n [] = Unit {0}
Below n (x ∷ xs) = (x < n) × Below n xs
