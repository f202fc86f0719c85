-- Text in a lent slice: what each function of `output` makes of the slice and of the index.
-- Assumes nothing.
use Rattle.std.specs.Prelude.{List, [], ◌∷◌, ◌++◌, ℕ, length}
use Rattle.listing.specs.Listing.{decimal_of, put_past, put_after}

-- a slice and the index past the text in it
pub record Page : Type 0 where
  pub out : List ℕ
  pub at : ℕ

abbrev pub page : List ℕ → ℕ → Page
page out at = record { out = out; at = at }

-- a text, where so many bytes are left for it
unfoldable pub put : Page → ℕ → List ℕ → Page
put p most bytes = page (put_after p.out p.at most bytes) (put_past p.out p.at most bytes)

abbrev pub put_text : Page → List ℕ → Page
put_text p bytes = put p (length bytes) bytes

abbrev pub put_end_line : Page → Page
put_end_line p = put_text p (10 ∷ [])

-- a number's digits, 20 at most, and a byte behind them
abbrev pub put_ended : Page → ℕ → ℕ → Page
put_ended p n byte = put p 21 (decimal_of n ++ byte ∷ [])

-- a number and a blank; a number and the end of the line
abbrev pub put_number : Page → ℕ → Page
put_number p n = put_ended p n 32

abbrev pub put_last : Page → ℕ → Page
put_last p n = put_ended p n 10

-- each number and a blank, one after the other
unfoldable pub put_numbers : Page → List ℕ → Page
put_numbers p [] = p
put_numbers p (n ∷ ns) = put_numbers (put_number p n) ns

abbrev pub put_words_line : Page → List ℕ → Page
put_words_line p ns = put_end_line (put_numbers p ns)
