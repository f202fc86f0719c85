-- Texts put by calls, and one after another.
-- Assumes nothing.
use Rattle.std.specs.Prelude.{List, ◌++◌, ◌≡◌, ℕ, ◌+◌, ◌≤◌, length}
use Rattle.std.proofs.Common.{ap, ◌∙◌, add_assoc, arith, length-append}
use Rattle.kit.specs.Placed.{placed_length, placed_more}
use Rattle.listing.specs.Listing.{put_past, put_after}
use Rattle.listing.proofs.ListingLaws.{put_room}
use Rattle.listing.specs.Put.{Put}

-- what an open call left that puts a text where it has room
pub was_put : (out : List ℕ) (at most : ℕ) (text : List ℕ) {after : List ℕ} {past : ℕ} → at + most ≤ length out → length text ≤ most
    → (past ≡ put_past out at most text) × (after ≡ put_after out at most text) → Put out at text most after past
was_put out at most text h s e = let p = put_room out at most text h in record { index = e.0 ∙ p.0; slice = e.1 ∙ p.1; short = s }

-- the slice keeps its length
pub put_same : {out : List ℕ} {at : ℕ} {text : List ℕ} {most : ℕ} {after : List ℕ} {past : ℕ} → Put out at text most after past → at + most ≤ length out
    → length after ≡ length out
put_same {out} {at} {text} p h = ap length p.slice ∙ placed_length out at text (omega (arith, p.short))

pub put_then : {out : List ℕ} {at : ℕ} {text : List ℕ} {most : ℕ} {after : List ℕ} {past : ℕ} {text' : List ℕ} {most' : ℕ} {after' : List ℕ} {past' : ℕ}
    → Put out at text most after past → Put after past text' most' after' past' → at ≤ length out → Put out at (text ++ text') (most + most') after' past'
put_then {out} {at} {text} {text' = text'} p q h =
    record {
      index = q.index ∙ rw (p.index, length-append text text') (add_assoc _ _ _);
      slice = q.slice ∙ rw (p.slice, p.index) (placed_more out at text text' h);
      short = simp length-append (omega (arith, p.short, q.short));
    }

-- the same text under another name, with a wider bound
pub put_as : {out : List ℕ} {at : ℕ} {text text' : List ℕ} {most most' : ℕ} {after : List ℕ} {past : ℕ}
    → Put out at text most after past → text' ≡ text → most ≤ most' → Put out at text' most' after past
put_as p e h = rw e (record { index = p.index; slice = p.slice; short = omega (arith, p.short) })
