-- How a reader moves.
-- Assumes nothing.
use Rattle.std.specs.Prelude.{◌≡◌, ◌+◌, List, ℕ, min, length, get_or, take, drop}
use Rattle.std.specs.Int.{div_ceil}
use Rattle.wire.specs.Wire.{bytes_of}
use Rattle.tester.specs.Input.{first_of}
use Rattle.tester.specs.declared.reading.Reader.{Reader}

-- so many words hold the bytes of a file
unfoldable pub words_for : ℕ → ℕ
words_for bytes = div_ceil bytes 4

-- a file, behind the number of its bytes, of at most 4,112
unfoldable pub file_size : Reader → ℕ
file_size r = min (get_or r.words.now r.next 0) 4112

unfoldable pub file_of : Reader → List ℕ
file_of r = take (file_size r) (bytes_of (first_of (words_for (file_size r)) (drop (r.next + 1) r.words.now)))

-- so many words read: the input stays, and the next word is so many further, or the end
abbrev pub Passes : Reader → Reader → ℕ → Type 0
Passes before after count = (after.words.now ≡ before.words.now) × (after.next ≡ min (before.next + count) (length before.words.now))
