-- Two arrays compared by `==` are compared word for word.
use Rattle.std.specs.Prelude.{Bool, refl, List, [], ◌∷◌, ◌≡◌, ℕ, nat_eq, eqb, ◌&&◌}
use Rattle.std.proofs.Common.{ap}
use lib.Pointwise.{pointwise}
use Rattle.record.specs.Record.{same_words}

pub pointwise_same : (a b : List ℕ) → pointwise nat_eq a b ≡ same_words a b
unfolding same_words
pointwise_same [] [] = refl
pointwise_same [] (b ∷ bs) = refl
pointwise_same (a ∷ as') [] = refl
pointwise_same (a ∷ as') (b ∷ bs) = ap (λ (t : Bool). eqb a b && t) (pointwise_same as' bs)
