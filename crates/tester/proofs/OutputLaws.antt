-- Laws of text in a lent slice: a number and the byte after it, and a list of numbers.
-- Assumes nothing.
use Rattle.std.specs.Prelude.{◌≡◌, List, [], ◌∷◌, ◌++◌, ℕ, ◌+◌, ◌^◌, ◌≤◌, ◌<◌, length, drop, get_or}
use Rattle.std.proofs.Common.{ap, add-one, arith, le-leb, length-append, drop_of_length-le, drop-cons}
use Rattle.std.proofs.lemmas.Bool.{lt-leb}
use Rattle.kit.specs.Pick.{pick_true, pick_false}
use Rattle.kit.specs.Placed.{placed, placed_length, placed_more}
use Rattle.listing.specs.Listing.{decimal_of, put_past, put_after}
use Rattle.listing.proofs.ListingLaws.{decimal_length}
use Rattle.tester.specs.Output.{Page, page, put, put_text, put_ended, put_number, put_numbers}

-- ---- a text

put_room : (out : List ℕ) (at most : ℕ) (bytes : List ℕ) → at + most ≤ length out → put (page out at) most bytes ≡ page (placed out at bytes) (at + length bytes)
unfolding put put_past put_after
put_room out at most bytes h = rw (pick_true _ (placed out at bytes) out (le-leb _ _ h), pick_true _ (at + length bytes) at (le-leb _ _ h))

pub put_no_room : (out : List ℕ) (at most : ℕ) (bytes : List ℕ) → length out < at + most → put (page out at) most bytes ≡ page out at
unfolding put put_past put_after
put_no_room out at most bytes h = rw (pick_false _ (placed out at bytes) out (lt-leb _ _ h), pick_false _ (at + length bytes) at (lt-leb _ _ h))

-- ---- a number and a byte

pub put_ended_lem : (out : List ℕ) (at n byte : ℕ) → n < 2 ^ 64 → at + 21 ≤ length out → put_text (put (page out at) 20 (decimal_of n)) (byte ∷ []) ≡ put_ended (page out at) n byte
put_ended_lem out at n byte fits h =
    let short = decimal_length 19 n (omega arith) in
    let same = placed_length out at (decimal_of n) (omega arith) in
    rw (put_room out at 20 (decimal_of n) (omega arith), put_room out at 21 (decimal_of n ++ byte ∷ []) h, put_room (placed out at (decimal_of n)) (at + length (decimal_of n)) 1 (byte ∷ []) (omega arith), placed_more out at (decimal_of n) (byte ∷ []) (omega arith))
    (ap (page _) (simp length-append (omega arith)))

-- ---- a list of numbers

pub numbers_next : (p : Page) (ns : List ℕ) (i : ℕ) → i < length ns → put_numbers p (drop i ns) ≡ put_numbers (put_number p (get_or ns i 0)) (drop (i + 1) ns)
unfolding put_numbers
numbers_next p ns i h = rw (add-one, drop-cons ns i 0 h)

pub numbers_end : (p : Page) (ns : List ℕ) (i : ℕ) → length ns ≤ i → put_numbers p (drop i ns) ≡ p
unfolding put_numbers
numbers_end p ns i h = rw (drop_of_length-le ns h)
