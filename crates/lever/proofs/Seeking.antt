-- The search's definition as the code meets it: one position and those after it, one length and those after it.
-- Assumes nothing.
use Rattle.std.specs.Prelude.{Bool, true, false, ◌&&◌, Result, Ok, Err, ⊤, Option, Some, None, List, [], ◌∷◌, ◌++◌, ◌≡◌, refl, ℕ, zero, suc, ◌+◌, ◌-◌, ◌≤◌, ◌<◌, eqb, length, drop}
use Rattle.std.specs.Option.{is_some, unwrap_or, ok_or, option_or, option_map, IfSome}
use Rattle.std.specs.Result.{is_ok}
use Rattle.std.proofs.Common.{sym, ap, ◌∙◌, arith, eq-eqb, ne_eqb}
use Rattle.kit.specs.Pick.{pick, pick_true, pick_false, pick_case, no}
use Rattle.event.specs.declared.refusal.Refusal.{Refusal}
use Rattle.event.specs.declared.refusal.Refusal.TheVariants as refusal
use Rattle.event.specs.Refusal.{number}
use Rattle.event.proofs.RefusalLaws.{number_pos}
use Rattle.checks.specs.Checks.{up_down_check}
use Rattle.lever.specs.declared.Goal.{Goal}
use Rattle.lever.specs.declared.Moves as lever
use Rattle.lever.specs.Fewest.{zeros, padded, listed, turned_away, moves_answer}
use Rattle.lever.specs.FewestShape.{Found, lever_word, moved_to, try_from, seek_of, shortest_of, held, list_answer}

-- ---- the check that a position has to pass
pub ok_number : (r : Result ⊤ Refusal) → true ≡ is_ok r → number r ≡ 0
ok_number (Ok u) e = refl
ok_number (Err r) e = no e

pub err_number : (r : Result ⊤ Refusal) → false ≡ is_ok r → number r ≡ 0 → ⊥
err_number (Ok u) e n = no (sym e)
err_number (Err r) e n = number_pos r _ refl n

-- ---- a list that is one or the other
or_first : (p q : Found) → is_some p ≡ true → option_or p q ≡ p
or_first (Some ws) q e = refl
or_first None q e = no (sym e)

or_second : (p q : Found) → is_some p ≡ false → option_or p q ≡ q
or_second (Some ws) q e = no e
or_second None q e = refl

behind_some : (w : ℕ) (p : Found) → is_some (option_map (λ ws. w ∷ ws) p) ≡ is_some p
behind_some w (Some ws) = refl
behind_some w None = refl

behind_left : (w : ℕ) (p : Found) (old rest : List ℕ) → is_some p ≡ true → w ∷ unwrap_or p rest ≡ unwrap_or (option_map (λ ws. w ∷ ws) p) old
behind_left w (Some ws) old rest e = refl
behind_left w None old rest e = no (sym e)

pub left_none : (p : Found) (old : List ℕ) → is_some p ≡ false → unwrap_or p old ≡ old
left_none (Some ws) old e = no e
left_none None old e = refl

-- ---- no word is lent
reached : (b : Bool) → (b ≡ is_some (pick {A = Found} b (Some []) None)) × (◌≡◌ {A = List ℕ} [] (unwrap_or (pick b (Some []) None) []))
unfolding pick
reached true = (refl, refl)
reached false = (refl, refl)

pub seek_end : (g : Goal) (old : List ℕ) (l d : ℕ) → length old ≡ 0
    → ((eqb l 0 && eqb d g.wanted) ≡ is_some (seek_of g (length old) l d)) × (old ≡ unwrap_or (seek_of g (length old) l d) old)
unfolding seek_of
seek_end g [] l d e = reached (eqb l 0 && eqb d g.wanted)
seek_end g (w ∷ old) l d e = absurd (omega arith)

-- ---- some are
pub seek_more : (g : Goal) (k n l d : ℕ) → k + 1 ≡ n → try_from g.ceiling (seek_of g k) 5 l d ≡ seek_of g n l d
unfolding seek_of
seek_more g k (suc n) l d e = let q : k ≡ n = omega arith in rw q refl
seek_more g k zero l d e = absurd (omega arith)

module _ (top : ℕ) (next : ℕ → ℕ → Found) (l d x : ℕ) where
  -- the first list that begins with x
  with_x : Found
  with_x = pick (eqb (up_down_check l 0 x) 0) (option_map (λ ws. lever_word x ∷ ws) (next x (moved_to top x d))) None

  try_next : x < 5 → try_from top next (5 - x) l d ≡ option_or with_x (try_from top next (5 - (x + 1)) l d)
  unfolding try_from with_x
  try_next h =
      let a : 5 - x ≡ suc (4 - x) = omega arith in
      let b : 5 - (x + 1) ≡ 4 - x = omega arith in
      let e : 4 - (4 - x) ≡ x = omega arith in
      rw (a, b, e) refl

  module _ (whole : Found) (h : x < 5) (inv : try_from top next (5 - x) l d ≡ whole) where
    pub try_skip : (up_down_check l 0 x ≡ 0 → ⊥) → try_from top next (5 - (x + 1)) l d ≡ whole
    unfolding with_x
    try_skip z =
        let p : with_x ≡ None = pick_false _ _ _ (ne_eqb (up_down_check l 0 x) 0 z) in
        sym (or_second with_x _ (ap is_some p)) ∙ sym (try_next h) ∙ inv

    module _ (z : up_down_check l 0 x ≡ 0) (m : ℕ) (em : m ≡ moved_to top x d) where
      taken : with_x ≡ option_map (λ ws. lever_word x ∷ ws) (next x m)
      unfolding with_x
      taken = pick_true _ _ _ (eq-eqb (up_down_check l 0 x) 0 z) ∙ rw em refl

      taken_some : is_some with_x ≡ is_some (next x m)
      taken_some = ap is_some taken ∙ behind_some (lever_word x) (next x m)

      pub try_miss : is_some (next x m) ≡ false → try_from top next (5 - (x + 1)) l d ≡ whole
      try_miss e = sym (or_second with_x _ (taken_some ∙ e)) ∙ sym (try_next h) ∙ inv

      pub try_hit : (old rest : List ℕ) → is_some (next x m) ≡ true → (true ≡ is_some whole) × (lever_word x ∷ unwrap_or (next x m) rest ≡ unwrap_or whole old)
      try_hit old rest e =
          let w : whole ≡ with_x = sym inv ∙ try_next h ∙ or_first with_x _ (taken_some ∙ e) in
          (sym (ap is_some w ∙ taken_some ∙ e), behind_left (lever_word x) (next x m) old rest e ∙ ap (λ p. unwrap_or p old) (sym (w ∙ taken)))

-- no position is left
pub try_over : (top : ℕ) (next : ℕ → ℕ → Found) (l d x : ℕ) (whole : Found) (old : List ℕ) → 5 ≤ x → try_from top next (5 - x) l d ≡ whole
    → (false ≡ is_some whole) × (old ≡ unwrap_or whole old)
unfolding try_from
try_over top next l d x whole old h inv =
    let a : 5 - x ≡ 0 = omega arith in
    let w : whole ≡ None = sym inv ∙ rw a refl in
    rw w (refl, refl)

-- ---- a list has as many words as were lent
abbrev Sized : ℕ → Found → Type 0
Sized k p = IfSome p (λ ws. length ws ≡ k)

behind_sized : (k w : ℕ) (p : Found) → Sized k p → Sized (suc k) (option_map (λ ws. w ∷ ws) p)
behind_sized k w (Some ws) s = omega (arith, s)
behind_sized k w None s = tt

or_sized : (k : ℕ) (p q : Found) → Sized k p → Sized k q → Sized k (option_or p q)
or_sized k (Some ws) q s t = s
or_sized k None q s t = t

try_sized : (top : ℕ) (next : ℕ → ℕ → Found) (k : ℕ) → ((l d : ℕ) → Sized k (next l d)) → (n l d : ℕ) → Sized (suc k) (try_from top next n l d)
unfolding try_from
try_sized top next k h zero l d = tt
try_sized top next k h (suc n) l d =
    or_sized (suc k) _ _ (pick_case (Sized (suc k)) (eqb (up_down_check l 0 (4 - n)) 0) _ _ (λ _. behind_sized k _ _ (h _ _)) (λ _. tt)) (try_sized top next k h n l d)

seek_sized : (g : Goal) (k l d : ℕ) → Sized k (seek_of g k l d)
unfolding seek_of
seek_sized g zero l d = pick_case (Sized 0) (eqb l 0 && eqb d g.wanted) _ _ (λ _. refl) (λ _. tt)
seek_sized g (suc k) l d = try_sized g.ceiling (seek_of g k) k (seek_sized g k) 5 l d

-- ---- the first length that has a list
module _ (g : Goal) (d k : ℕ) (whole : Found) (inv : shortest_of g d (7 - k) k ≡ whole) where
  shortest_next : k < 7 → whole ≡ option_or (seek_of g k 0 d) (shortest_of g d (7 - (k + 1)) (k + 1))
  unfolding shortest_of
  shortest_next h =
      let a : 7 - k ≡ suc (6 - k) = omega arith in
      let b : 7 - (k + 1) ≡ 6 - k = omega arith in
      let e : k + 1 ≡ suc k = omega arith in
      sym inv ∙ rw (a, b, e) refl

  pub shortest_miss : k < 7 → is_some (seek_of g k 0 d) ≡ false → shortest_of g d (7 - (k + 1)) (k + 1) ≡ whole
  shortest_miss h e = sym (shortest_next h ∙ or_second _ _ e)

  pub shortest_hit : k < 7 → (old : List ℕ) → is_some (seek_of g k 0 d) ≡ true
      → ◌≡◌ {A = Option lever.Moves} (Some (record { words = unwrap_or (seek_of g k 0 d) old ++ drop k zeros; count = k })) (option_map held whole)
  unfolding held padded
  shortest_hit h old e = by (seek_of g k 0 d) e (seek_sized g k 0 d) (shortest_next h ∙ or_first _ _ e)
    where
      by : (p : Found) → is_some p ≡ true → Sized k p → whole ≡ p
          → ◌≡◌ {A = Option lever.Moves} (Some (record { words = unwrap_or p old ++ drop k zeros; count = k })) (option_map held whole)
      by (Some ws) e s w = rw (w, s) refl
      by None e s w = no (sym e)

  pub shortest_over : 7 ≤ k → ◌≡◌ {A = Option lever.Moves} None (option_map held whole)
  unfolding shortest_of
  shortest_over h = let a : 7 - k ≡ 0 = omega arith in let w : whole ≡ None = sym inv ∙ rw a refl in rw w refl

-- ---- the answer to a good car that is ready
pub answered : (p : Found) → moves_answer (ok_or (option_map held p) refusal.OutOfReach) ≡ list_answer p
unfolding held list_answer listed turned_away
answered (Some ws) = refl
answered None = refl
