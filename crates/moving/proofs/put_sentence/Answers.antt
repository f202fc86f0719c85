use Rattle.std.proofs.Common.{refl, arith}
use Rattle.kit.specs.Pick.{pick}
use Rattle.listing.specs.Listing.{ascii}
use Rattle.listing.proofs.ListingLaws.{refused_length}
use Rattle.listing.proofs.PutLaws.{was_put, put_as}
use Rattle.moving.specs.Moving.{sentence}
use Rattle.moving.proofs.Writing.{other_sentence}
use Rattle.moving.proofs.put_sentence.Goals as goal

pub returns-in-17 : goal.returns-in-17
unfolding sentence ascii pick
returns-in-17 c = rw c.in-17.is (put_as (was_put _ _ 57 _ (omega arith) (omega arith) c.put_text.ensures) refl (omega arith))

pub returns-in-21 : goal.returns-in-21
unfolding sentence ascii pick
returns-in-21 c = rw c.in-21.is (put_as (was_put _ _ 40 _ (omega arith) (omega arith) c.put_text-in-21.ensures) refl (omega arith))

pub returns-in-25 : goal.returns-in-25
unfolding sentence ascii pick
returns-in-25 c = rw c.in-25.is (put_as (was_put _ _ 55 _ (omega arith) (omega arith) c.put_text-in-25.ensures) refl (omega arith))

pub returns-in-26 : goal.returns-in-26
unfolding sentence ascii pick
returns-in-26 c = rw c.in-26.is (put_as (was_put _ _ 64 _ (omega arith) (omega arith) c.put_text-in-26.ensures) refl (omega arith))

pub returns-in_default : goal.returns-in_default
returns-in_default c =
    put_as (was_put _ _ 29 _ (omega arith) (refused_length _ (omega arith)) c.put_refused.ensures)
    (other_sentence _ (λ e. omega (arith, e)) (λ e. omega (arith, e)) (λ e. omega (arith, e)) (λ e. omega (arith, e))) (omega arith)
