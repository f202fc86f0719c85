-- A list taken part by part: the part from one index to another, and what is left behind it.
-- Assumes nothing.
use Rattle.std.specs.Prelude.{List, ◌++◌, ◌≡◌, ℕ, ◌+◌, ◌-◌, ◌≤◌, length, take, drop}
use Rattle.std.proofs.Common.{sym, ap, ◌∙◌, arith, length-drop, take-append-drop, length-take-le, drop-drop}

module _ (ws : List ℕ) (at end : ℕ) (below : at ≤ end) (within : end ≤ length ws) where
  pub part_length : length (take (end - at) (drop at ws)) ≡ end - at
  part_length = length-take-le (end - at) (drop at ws) (omega (arith, length-drop at ws))

  pub part_split : drop at ws ≡ take (end - at) (drop at ws) ++ drop end ws
  part_split =
      let past : at + (end - at) ≡ end = omega arith in
      sym (take-append-drop (end - at) (drop at ws)) ∙ ap (λ (rest : List ℕ). take (end - at) (drop at ws) ++ rest) (drop-drop (end - at) at ws ∙ ap (λ n. drop n ws) past)
