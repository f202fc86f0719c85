-- What an up-down lever word asks of a car and what it changes, and that with cruise on and M in neutral its check and the next L and D go by L and D
-- alone.
-- Assumes nothing.
use Rattle.std.specs.Prelude.{Bool, true, false, ◌&&◌, not, ◌≡◌, refl, ℕ, ◌≤◌, eqb, leb}
use Rattle.std.proofs.Common.{sym, ap, ◌∙◌, arith, leb-true, le-leb, eqb-true}
use Rattle.kit.specs.Answer.{Answer, gives, refused}
use Rattle.kit.specs.Pick.{pick, pick_case, and_l, and_r}
use Rattle.event.specs.declared.Input.{Input}
use Rattle.event.specs.declared.Input.TheVariants.{UpDown}
use Rattle.event.specs.declared.Event.{Event}
use Rattle.event.specs.declared.Event.TheVariants as event
use Rattle.event.specs.Words.{kind_of, body_of, input_kind, input_range, in_range, input_word, word_of, judged, inputs_of, input_of, input_event, read_of}
use Rattle.event.proofs.WordLaws.{read_input, word_read}
use Rattle.checks.specs.Checks.{up_down_check}
use Rattle.car.specs.declared.Car.{Car}
use Rattle.car.specs.Car.{ceiling_of, with_levers, with_cruise}
use Rattle.car.specs.Checks.{own_check, input_check, event_check}
use Rattle.car.specs.Drive.{Driven, input_next, event_next, reading_check, check_of, step_of}
use Rattle.car.specs.Rules.{lever_desired, up_down_moved}
use Rattle.car.proofs.StepLaws.{Stepping, stepping, went, stayed}
use Rattle.lever.specs.declared.Goal.{Goal}
use Rattle.lever.specs.Fewest.{ready_to_move}
use Rattle.lever.specs.FewestShape.{lever_word, moved_to}

-- ---- an accepted word of kind 2 names a position
lever_read : (w : ℕ) → kind_of w ≡ 2 → read_of w ≡ input_event (judged 8 (body_of w) (UpDown (body_of w)))
unfolding input_of inputs_of pick
lever_read w k = read_input w (rw k refl) ∙ ap input_event (rw k refl)

judged_within : (x : ℕ) (e : Event) → input_event (judged 8 x (UpDown x)) ≡ gives e → x ≤ 4
unfolding judged input_range input_event
judged_within x e =
    pick_case (λ (r : Answer Input). input_event r ≡ gives e → x ≤ 4) (leb 8 x) _ _ (λ _ z. not_given z)
    (λ _. pick_case (λ (r : Answer Input). input_event r ≡ gives e → x ≤ 4) (not (leb x 4)) _ _ (λ _ z. not_given z) (λ t _. within (leb x 4) refl t))
  where
    not_given : {n : ℕ} → ◌≡◌ {A = Answer Event} (refused n) (gives e) → x ≤ 4
    not_given z = let q : ◌≡◌ {A = ℕ} 0 1 = cc in absurd (omega arith)

    within : (b : Bool) → leb x 4 ≡ b → not b ≡ false → x ≤ 4
    within true t z = leb-true x 4 t
    within false t z = let q : ◌≡◌ {A = ℕ} 0 1 = cc in absurd (omega arith)

pub lever_named : (c : Car) (w : ℕ) → kind_of w ≡ 2 → check_of c w ≡ 0 → (body_of w ≤ 4) × (w ≡ lever_word (body_of w))
lever_named c w k z = by (stepping c w)
  where
    by : Stepping c w → (body_of w ≤ 4) × (w ≡ lever_word (body_of w))
    by (went e r i h y q) = (judged_within (body_of w) e (sym (lever_read w k) ∙ r), omega (arith, k))
    by (stayed n q) = absurd (n z)

-- ---- the word of a position
pub lever_kind : (x : ℕ) → x ≤ 4 → kind_of (lever_word x) ≡ 2
lever_kind x h = omega arith

pub lever_body : (x : ℕ) → x ≤ 4 → body_of (lever_word x) ≡ x
lever_body x h = omega arith

given : {a b : Event} → ◌≡◌ {A = Answer Event} (gives a) (gives b) → a ≡ b
given e = cc

module _ (c : Car) (x : ℕ) (h : x ≤ 4) where
  reads : read_of (lever_word x) ≡ gives (event.Input (UpDown x))
  unfolding in_range input_range word_of input_word
  reads = word_read (event.Input (UpDown x)) (le-leb x 4 h)

  -- L and M are all that it asks of a car
  pub lever_check : check_of c (lever_word x) ≡ up_down_check c.levers.updown c.levers.foreback x
  unfolding check_of reading_check event_check input_check input_kind own_check pick
  lever_check = rw reads refl

  -- accepted, it is the rule L
  pub lever_step : check_of c (lever_word x) ≡ 0 → (step_of c (lever_word x)).car ≡ up_down_moved c x
  unfolding event_next input_next
  lever_step z = by (stepping c (lever_word x))
    where
      by : Stepping c (lever_word x) → (step_of c (lever_word x)).car ≡ up_down_moved c x
      by (went e r i y n q) = let f : e ≡ event.Input (UpDown x) = given (sym r ∙ reads) in ap (λ (d : Driven). d.car) q ∙ ap (event_next c) f
      by (stayed n q) = absurd (n z)

pub accepted_step : (c : Car) (w : ℕ) → kind_of w ≡ 2 → check_of c w ≡ 0 → (step_of c w).car ≡ up_down_moved c (body_of w)
accepted_step c w k z =
    let n = lever_named c w k z in
    ap (λ (v : ℕ). (step_of c v).car) n.1 ∙ lever_step c (body_of w) n.0 (ap (check_of c) (sym n.1) ∙ z)

-- ---- with cruise on and M in neutral
pub ready_parts : (c : Car) → ready_to_move c ≡ true → (c.cruise.on ≡ true) × (c.levers.updown ≡ 0) × (c.levers.foreback ≡ 0)
unfolding ready_to_move
ready_parts c h =
    let a = and_l (c.cruise.on && eqb c.levers.updown 0) (eqb c.levers.foreback 0) h in (
      and_l c.cruise.on _ a,
      eqb-true c.levers.updown 0 (and_r c.cruise.on _ a),
      eqb-true c.levers.foreback 0 (and_r (c.cruise.on && eqb c.levers.updown 0) _ h),
    )

pub record Stands (g : Goal) (l d : ℕ) (c : Car) : Type 0 where
  pub on : c.cruise.on ≡ true
  pub foreback : c.levers.foreback ≡ 0
  pub ceiling : ceiling_of c.settings ≡ g.ceiling
  pub updown : c.levers.updown ≡ l
  pub desired : c.cruise.desired ≡ d

module _ (g : Goal) (l d : ℕ) (c : Car) (s : Stands g l d c) (x : ℕ) (h : x ≤ 4) where
  pub stands_check : check_of c (lever_word x) ≡ up_down_check l 0 x
  stands_check = lever_check c x h ∙ rw (s.updown, s.foreback) refl

  moves_desired : lever_desired c x ≡ moved_to g.ceiling x d
  unfolding lever_desired moved_to pick
  moves_desired = rw (s.on, s.ceiling, s.desired) refl

  pub stands_next : up_down_check l 0 x ≡ 0 → Stands g x (moved_to g.ceiling x d) (step_of c (lever_word x)).car
  unfolding up_down_moved with_cruise with_levers
  stands_next z =
      rw (lever_step c x h (stands_check ∙ z))
      (record { on = s.on; foreback = s.foreback; ceiling = s.ceiling; updown = refl; desired = moves_desired })
