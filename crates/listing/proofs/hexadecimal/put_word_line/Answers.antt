use Rattle.listing.specs.Listing.{word_line, ascii}
use Rattle.listing.proofs.hexadecimal.put_word_line.Goals as goal

pub returns : goal.returns
unfolding word_line ascii
returns c =
    rw (c.hex_digit.ensures, c.hex_digit-2.ensures, c.hex_digit-3.ensures, c.hex_digit-4.ensures, c.hex_digit-5.ensures, c.hex_digit-6.ensures, c.hex_digit-7.ensures, c.hex_digit-8.ensures)
    at c.put_text.ensures
