-- Bytes that are read piece by piece into a slice.
-- Assumes nothing.
use Rattle.std.specs.Prelude.{List, ◌++◌, ℕ, ◌+◌, ◌≡◌, ◌≤◌, length, take, drop, None, Some}
use Rattle.std.proofs.Common.{sym, ap, ◌∙◌, append_assoc}
use Rattle.std.proofs.lemmas.List.{length-take-le, take-append-le}
use Rattle.std.proofs.Math.Seq.{take-append-add}
use Rattle.std.specs.declared.option.Option.{Option}
use Rattle.std.specs.Io.KnownBytes.{Consumes}
use borrow.Rule.Slice.PartMut.{put_mid}

pub more_read : (a b c : Option (List ℕ)) (xs ys : List ℕ) → Consumes a b xs → Consumes b c ys → Consumes a c (xs ++ ys)
more_read None b c xs ys h g = record {}
more_read (Some known) None c xs ys h g = absurd h
more_read (Some known) (Some bs) None xs ys h g = absurd g
more_read (Some known) (Some bs) (Some cs) xs ys h g = h ∙ ap (λ t. xs ++ t) g ∙ sym (append_assoc xs ys cs)

-- the first bytes of a slice whose part from `at` on was read into
pub taken : (at k n : ℕ) (xs ys : List ℕ) → at ≤ length xs → n ≤ length ys → take (at + n) (put_mid at k xs ys) ≡ take at xs ++ take n ys
taken at k n xs ys h g =
    let front : length (take at xs) ≡ at = length-take-le at xs h in
    ap (λ m. take (m + n) (take at xs ++ (ys ++ drop k (drop at xs)))) (sym front)
    ∙ take-append-add (take at xs) (ys ++ drop k (drop at xs)) n
    ∙ ap (λ t. take at xs ++ t) (take-append-le n ys (drop k (drop at xs)) g)
