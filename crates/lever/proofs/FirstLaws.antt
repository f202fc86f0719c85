-- The search finds the first of its lists: of those of one length the one whose words come first, and of several lengths the shortest of these.
-- Assumes nothing.
use Rattle.std.specs.Prelude.{Bool, true, false, ◌&&◌, Some, None, ◌⊎◌, List, [], ◌∷◌, ◌≡◌, refl, ℕ, zero, suc, ◌+◌, ◌-◌, ◌≤◌, ◌<◌, eqb, length}
use Rattle.std.specs.Option.{MatchOption, option_or, option_map}
use Rattle.std.proofs.Common.{⊎_elim, inl, inr, sym, ap, ◌∙◌, arith, eq-eqb, eqb-true, eq-or-lt_of_le}
use Rattle.std.proofs.lemmas.Bool.{eqb-false}
use Rattle.kit.specs.Pick.{pick, pick_case, and_l, and_r, and_both, no}
use Rattle.event.specs.Words.{body_of}
use Rattle.checks.specs.Checks.{up_down_check}
use Rattle.car.specs.declared.Car.{Car}
use Rattle.car.specs.Drive.{step_of}
use Rattle.lever.specs.declared.Goal.{Goal}
use Rattle.lever.specs.Fewest.{Reaches, NotAfter}
use Rattle.lever.specs.FewestShape.{Found, lever_word, moved_to, try_from, seek_of, shortest_of}
use Rattle.lever.proofs.LeverWordLaws.{lever_named, lever_kind, lever_body, Stands, stands_check, stands_next}

-- ---- the first of some lists, in an order
abbrev Lists : Type 1
Lists = List ℕ → Type 0

abbrev Order : Type 1
Order = List ℕ → List ℕ → Type 0

abbrev pub First : (List ℕ → List ℕ → Type 0) → (List ℕ → Type 0) → Found → Type 0
First R S p = MatchOption p ((ws : List ℕ) → S ws → ⊥) (λ vs. S vs × ((ws : List ℕ) → S ws → R vs ws))

-- the lists T are those of S, in both
first_same : (R R' : Order) (S T : Lists) (p : Found) → ((ws : List ℕ) → S ws → T ws) → ((ws : List ℕ) → T ws → S ws)
    → ((ws vs : List ℕ) → S ws → S vs → R ws vs → R' ws vs) → First R S p → First R' T p
first_same R R' S T (Some vs) f g h s = (f vs s.0, λ ws t. h vs ws s.0 (g ws t) (s.1 ws (g ws t)))
first_same R R' S T None f g h s = λ ws t. s ws (g ws t)

-- the lists U are those of S and those of T, which come after them
first_or : (R : Order) (S T U : Lists) (p q : Found) → ((ws : List ℕ) → S ws → U ws) → ((ws : List ℕ) → T ws → U ws) → ((ws : List ℕ) → U ws → S ws ⊎ T ws)
    → ((ws vs : List ℕ) → S ws → T vs → R ws vs) → First R S p → First R T q → First R U (option_or p q)
first_or R S T U (Some vs) q f g h k s t = (f vs s.0, λ ws u. ⊎_elim (λ a. s.1 ws a) (λ b. k vs ws s.0 b) (h ws u))
first_or R S T U None (Some vs) f g h k s t = (g vs t.0, λ ws u. ⊎_elim (λ a. absurd (s ws a)) (λ b. t.1 ws b) (h ws u))
first_or R S T U None None f g h k s t = λ ws u. ⊎_elim (λ a. s ws a) (λ b. t ws b) (h ws u)

-- ---- those of k words that reach the wanted D from a car
abbrev pub Of : ℕ → Car → ℕ → List ℕ → Type 0
Of k c wanted ws = (length ws ≡ k) × Reaches c wanted ws

module _ (g : Goal) where
  reached : (c : Car) (l d : ℕ) (b : Bool) → Stands g l d c → (eqb l 0 && eqb d g.wanted) ≡ b → First NotAfter (Of 0 c g.wanted) (pick b (Some []) None)
  unfolding Reaches NotAfter pick
  reached c l d true s e =
      ((refl, (s.updown ∙ eqb-true l 0 (and_l (eqb l 0) _ e), s.desired ∙ eqb-true d g.wanted (and_r (eqb l 0) _ e))), λ ws t. tt)
  reached c l d false s e = none
    where
      none : (ws : List ℕ) → Of 0 c g.wanted ws → ⊥
      none [] t = no (sym (and_both (eqb l 0) (eqb d g.wanted) (eq-eqb l 0 (sym s.updown ∙ t.1.0)) (eq-eqb d g.wanted (sym s.desired ∙ t.1.1))) ∙ e)
      none (w ∷ ws) t = absurd (omega (arith, t.0))

  module _ (k : ℕ) (c : Car) where
    -- of k + 1 words, the first of which moves the lever to x, or to y or a position after it
    At : ℕ → List ℕ → Type 0
    At x [] = ⊥
    At x (w ∷ ws) = (body_of w ≡ x) × (length ws ≡ k) × Reaches c g.wanted (w ∷ ws)

    From : ℕ → List ℕ → Type 0
    From y [] = ⊥
    From y (w ∷ ws) = (y ≤ body_of w) × (length ws ≡ k) × Reaches c g.wanted (w ∷ ws)

    module _ (l d : ℕ) (s : Stands g l d c) (x : ℕ) (h : x ≤ 4) where
      -- the check refuses x
      none_at : (up_down_check l 0 x ≡ 0 → ⊥) → (ws : List ℕ) → At x ws → ⊥
      unfolding At Reaches
      none_at z [] t = t
      none_at z (w ∷ ws) t =
          let n = lever_named c w t.2.0 t.2.1 in
          z (sym (stands_check g l d c s x h) ∙ rw (← t.0, ← n.1) t.2.1)

      -- it takes x
      behind_at : up_down_check l 0 x ≡ 0 → (p : Found) → First NotAfter (Of k (step_of c (lever_word x)).car g.wanted) p
          → First NotAfter (At x) (option_map (λ ws. lever_word x ∷ ws) p)
      unfolding At Reaches NotAfter
      behind_at z (Some vs) f =
          ((lever_body x h, f.0.0, (lever_kind x h, stands_check g l d c s x h ∙ z, f.0.1)), before)
        where
          before : (ws : List ℕ) → At x ws → NotAfter (lever_word x ∷ vs) ws
          before [] t = absurd t
          before (w ∷ ws) t =
              let n : w ≡ lever_word x = (lever_named c w t.2.0 t.2.1).1 ∙ ap lever_word t.0 in
              inr (sym n, f.1 ws (t.1, rw n at t.2.2))
      behind_at z None f = none
        where
          none : (ws : List ℕ) → At x ws → ⊥
          none [] t = t
          none (w ∷ ws) t =
              let n : w ≡ lever_word x = (lever_named c w t.2.0 t.2.1).1 ∙ ap lever_word t.0 in
              f ws (t.1, rw n at t.2.2)

    -- those that begin with y, and those that begin with a position after it
    from_at : (y : ℕ) (ws : List ℕ) → At y ws → From y ws
    unfolding At From
    from_at y [] t = t
    from_at y (w ∷ ws) t = (omega (arith, t.0), t.1, t.2)

    from_later : (y : ℕ) (ws : List ℕ) → From (suc y) ws → From y ws
    unfolding From
    from_later y [] t = t
    from_later y (w ∷ ws) t = (omega (arith, t.0), t.1, t.2)

    from_either : (y : ℕ) (ws : List ℕ) → From y ws → At y ws ⊎ From (suc y) ws
    unfolding At From
    from_either y [] t = absurd t
    from_either y (w ∷ ws) t =
        ⊎_elim (λ (e : y ≡ body_of w). inl (sym e, t.1, t.2)) (λ (e : y < body_of w). inr (e, t.1, t.2)) (eq-or-lt_of_le t.0)

    at_first : (y : ℕ) (ws vs : List ℕ) → At y ws → From (suc y) vs → NotAfter ws vs
    unfolding At From Reaches NotAfter
    at_first y [] vs t u = tt
    at_first y (w ∷ ws) [] t u = absurd u
    at_first y (w ∷ ws) (v ∷ vs) t u =
        let m = lever_named c w t.2.0 t.2.1 in
        let n = lever_named c v u.2.0 u.2.1 in
        inl (omega (arith, m.1, n.1, t.0, u.0))

    -- no position is after the last
    from_none : (ws : List ℕ) → From 5 ws → ⊥
    unfolding From Reaches
    from_none [] t = t
    from_none (w ∷ ws) t = omega (arith, t.0, (lever_named c w t.2.0 t.2.1).0)

    from_all : (ws : List ℕ) → From 0 ws → Of (suc k) c g.wanted ws
    unfolding From
    from_all [] t = absurd t
    from_all (w ∷ ws) t = (omega (arith, t.1), t.2)

    all_from : (ws : List ℕ) → Of (suc k) c g.wanted ws → From 0 ws
    unfolding From
    all_from [] t = absurd (omega (arith, t.0))
    all_from (w ∷ ws) t = (omega arith, omega (arith, t.0), t.1)

  -- `next` finds the first lists of k words, so that the first of k + 1 words is found
  module _ (k : ℕ) (next : ℕ → ℕ → Found) (found : (c : Car) (l d : ℕ) → Stands g l d c → First NotAfter (Of k c g.wanted) (next l d))
      (c : Car) (l d : ℕ) (s : Stands g l d c) where
    at_position : (x : ℕ) → x ≤ 4
        → First NotAfter (At k c x) (pick (eqb (up_down_check l 0 x) 0) (option_map (λ ws. lever_word x ∷ ws) (next x (moved_to g.ceiling x d))) None)
    at_position x h =
        pick_case (First NotAfter (At k c x)) (eqb (up_down_check l 0 x) 0) _ _
        (λ t. let z = eqb-true (up_down_check l 0 x) 0 t in behind_at k c l d s x h z _ (found _ x _ (stands_next g l d c s x h z)))
        (λ t. none_at k c l d s x h (eqb-false _ _ t))

    try_first : (n y : ℕ) → y + n ≡ 5 → First NotAfter (From k c y) (try_from g.ceiling next n l d)
    unfolding try_from
    try_first zero y e = let five : y ≡ 5 = omega arith in rw five (from_none k c)
    try_first (suc n) y e =
        let here : 4 - n ≡ y = omega arith in
        first_or NotAfter (At k c y) (From k c (suc y)) (From k c y) _ _ (from_at k c y) (from_later k c y) (from_either k c y) (at_first k c y)
        (rw here (at_position y (omega arith))) (try_first n (suc y) (omega arith))

  pub seek_first : (k : ℕ) (c : Car) (l d : ℕ) → Stands g l d c → First NotAfter (Of k c g.wanted) (seek_of g k l d)
  unfolding seek_of
  seek_first zero c l d s = reached c l d (eqb l 0 && eqb d g.wanted) s refl
  seek_first (suc k) c l d s =
      first_same NotAfter NotAfter (From k c 0) (Of (suc k) c g.wanted) _ (from_all k c) (all_from k c) (λ ws vs t u r. r)
      (try_first k (seek_of g k) (seek_first k) c l d s 5 0 refl)

  -- ---- of n lengths from k on
  abbrev pub Within : ℕ → ℕ → Car → List ℕ → Type 0
  Within k n c ws = (k ≤ length ws) × (length ws < k + n) × Reaches c g.wanted ws

-- fewer words, or as many and not after the other
abbrev pub Sooner : List ℕ → List ℕ → Type 0
Sooner ws vs = (length ws < length vs) ⊎ ((length ws ≡ length vs) × NotAfter ws vs)

pub shortest_first : (g : Goal) (c : Car) (d : ℕ) → Stands g 0 d c → (n k : ℕ) → First Sooner (Within g k n c) (shortest_of g d n k)
unfolding shortest_of
shortest_first g c d s zero k = λ ws t. omega (arith, t.0, t.1)
shortest_first g c d s (suc n) k =
    first_or Sooner (Of k c g.wanted) (Within g (suc k) n c) (Within g k (suc n) c) _ _
    (λ ws t. (omega (arith, t.0), omega (arith, t.0), t.1)) (λ ws t. (omega (arith, t.0), omega (arith, t.1), t.2))
    (λ ws t. ⊎_elim (λ (e : k ≡ length ws). inl (sym e, t.2)) (λ (e : k < length ws). inr (e, omega (arith, t.1), t.2)) (eq-or-lt_of_le t.0))
    (λ ws vs t u. inl (omega (arith, t.0, u.0)))
    (first_same NotAfter Sooner (Of k c g.wanted) (Of k c g.wanted) _ (λ ws t. t) (λ ws t. t) (λ ws vs t u r. inr (t.0 ∙ sym u.0, r)) (seek_first g k c 0 d s))
    (shortest_first g c d s n (suc k))
