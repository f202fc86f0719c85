-- Settings written and started, a word started and written, and which are refused.
-- Assumes nothing.
use Rattle.std.specs.Prelude.{Bool, ◌||◌, not, ◌⊎◌, ℕ, ◌^◌, ◌≤◌, ◌<◌, eqb, leb}
use Rattle.std.proofs.Math.Bool.{true, false}
use Rattle.std.proofs.Common.{inl, inr, ◌∙◌}
use Rattle.std.proofs.lemmas.Bool.{or_parts}
use Rattle.std.proofs.Math.Path.{◌≡◌, refl, sym, ap}
use native.Mathlib.Omega.{arith}
use borrow.Author.Tests.{leb-false, eqb-true, not-false, lt-leb, eq-eqb}
use Rattle.kit.specs.Answer.{Answer, gives, refused}
use Rattle.kit.specs.Pick.{pick, pick_true, pick_false, not_of_true, or_neither}
use Rattle.event.specs.Words.{kind_of, body_of}
use Rattle.car.specs.declared.Car.{Car}
use Rattle.car.specs.Car.{fresh_car, settings_of, Permitted, check17, fresh_of}
use Rattle.car.proofs.FreshLaws.{passed, permitted_fresh, permitted_good, other_17}
use Rattle.car.specs.Good.{good_of}
use Rattle.settings.specs.SettingsWord.{settings_kind, mode_of, signs_of, towing_of, start_of, word_of, write_of, Starts}

-- ---- a test that refuses, or a value
gave : {A : Type 0} (t : Bool) (n : ℕ) (a b : A) → pick t (refused n) (gives a) ≡ gives b → (t ≡ false) × (a ≡ b)
unfolding pick
gave true n a b h = let z : ◌≡◌ {A = ℕ} 0 1 = cc in absurd (omega arith)
gave false n a b h = (refl, cc)

denied : {A : Type 0} (t : Bool) (n m : ℕ) (a : A) → pick t (refused n) (gives a) ≡ refused m → (t ≡ true) × (n ≡ m)
unfolding pick
denied true n m a h = (refl, cc)
denied false n m a h = let z : ◌≡◌ {A = ℕ} 0 1 = cc in absurd (omega arith)

neither : (t u : Bool) → (t || u) ≡ false → (t ≡ false) × (u ≡ false)
neither = or_parts

-- ---- the first test of `start_of`: another kind, or an unnamed bit set
abbrev other : ℕ → Bool
other w = not (eqb (kind_of w) settings_kind) || leb (2 ^ 4) (body_of w)

-- ---- settings written
module _ (mode signs towing : ℕ) where
  -- settings that make a car are permitted, the car is their fresh one, which is good, and they have a word
  pub made_permitted : (c : Car) → fresh_of mode signs towing ≡ gives c → Permitted mode signs towing
  unfolding fresh_of
  made_permitted c h = passed mode signs towing (gave _ _ _ _ h).0

  made_car : (c : Car) → fresh_of mode signs towing ≡ gives c → c ≡ fresh_car (settings_of mode signs towing)
  unfolding fresh_of
  made_car c h = sym (gave _ _ _ _ h).1

  pub made_good : (c : Car) → fresh_of mode signs towing ≡ gives c → good_of c ≡ true
  made_good c h = rw (made_car c h) (permitted_good mode signs towing (made_permitted c h))

  pub made_written : (c : Car) → fresh_of mode signs towing ≡ gives c → write_of mode signs towing ≡ gives (word_of mode signs towing)
  unfolding fresh_of write_of
  made_written c h = pick_false _ _ _ (gave _ _ _ _ h).0

  -- settings that make none have the same refusal for a word
  pub refused_unwritten : (n : ℕ) → fresh_of mode signs towing ≡ refused n → write_of mode signs towing ≡ refused n
  unfolding fresh_of write_of
  refused_unwritten n h = let t = denied _ _ _ _ h in pick_true _ _ _ t.0 ∙ ap refused t.1

  -- permitted settings have a word, in 32 bits
  pub permitted_written : Permitted mode signs towing → write_of mode signs towing ≡ gives (word_of mode signs towing)
  permitted_written p = made_written _ (permitted_fresh mode signs towing p)

  permitted_le : Permitted mode signs towing → (1 ≤ mode) × (mode ≤ 2) × (signs ≤ 1) × (towing ≤ 1)
  permitted_le p = let s = flag_le signs p.sign_flag in let t = flag_le towing p.towing_flag in go s t p.modes
    where
      flag_le : (n : ℕ) → (n ≡ 0) ⊎ (n ≡ 1) → n ≤ 1
      flag_le n (inl e) = omega arith
      flag_le n (inr e) = omega arith

      go : signs ≤ 1 → towing ≤ 1 → (mode ≡ 1) ⊎ (mode ≡ 2) → (1 ≤ mode) × (mode ≤ 2) × (signs ≤ 1) × (towing ≤ 1)
      go s t (inl m) = omega arith
      go s t (inr m) = omega arith

  pub word_fits : Permitted mode signs towing → word_of mode signs towing < 2 ^ 32
  unfolding word_of
  word_fits p = omega (arith, permitted_le p)

  -- and all else is 17
  pub other_unwritten : (Permitted mode signs towing → ⊥) → write_of mode signs towing ≡ refused 17
  other_unwritten n = refused_unwritten 17 (other_17 mode signs towing n)

  -- settings that are written are permitted, and the word is their own
  pub written_own : (w : ℕ) → write_of mode signs towing ≡ gives w → Permitted mode signs towing × (word_of mode signs towing ≡ w)
  unfolding write_of
  written_own w h = let g = gave _ _ _ _ h in (passed mode signs towing g.0, g.1)

  -- the word of permitted settings says them
  word_says : Permitted mode signs towing → (mode_of (word_of mode signs towing) ≡ mode) × (signs_of (word_of mode signs towing) ≡ signs) × (towing_of (word_of mode signs towing) ≡ towing)
  unfolding word_of mode_of signs_of towing_of
  word_says p = let l = permitted_le p in (omega arith, omega arith, omega arith)

  word_named : Permitted mode signs towing → other (word_of mode signs towing) ≡ false
  unfolding word_of
  word_named p =
      let l = permitted_le p in
      let k : kind_of (word_of mode signs towing) ≡ settings_kind = omega arith in
      let b : body_of (word_of mode signs towing) < 2 ^ 4 = omega arith in
      or_neither _ _ (not_of_true _ (eq-eqb _ _ k)) (lt-leb _ _ b)

  word_starts : Permitted mode signs towing → start_of (word_of mode signs towing) ≡ fresh_of mode signs towing
  unfolding start_of
  word_starts p = let s = word_says p in pick_false _ _ _ (word_named p) ∙ rw (s.0, s.1, s.2)

  -- settings written and started give their fresh car
  pub written_started : (w : ℕ) → write_of mode signs towing ≡ gives w → start_of w ≡ gives (fresh_car (settings_of mode signs towing))
  written_started w h = let o = written_own w h in rw (← o.1) (word_starts o.0 ∙ permitted_fresh mode signs towing o.0)

-- ---- a word started
module _ (w : ℕ) where
  -- a word of the kind with no unnamed bit is the word of its settings
  says_own : other w ≡ false → word_of (mode_of w) (signs_of w) (towing_of w) ≡ w
  unfolding word_of mode_of signs_of towing_of
  says_own t =
      let n = neither (not (eqb (kind_of w) settings_kind)) (leb (2 ^ 4) (body_of w)) t in
      let k : kind_of w ≡ settings_kind = eqb-true _ _ (not-false _ n.0) in
      let b : body_of w < 2 ^ 4 = leb-false _ _ n.1 in
      omega arith

  started : (t : Bool) (c : Car) → other w ≡ t → pick t (refused 17) (fresh_of (mode_of w) (signs_of w) (towing_of w)) ≡ gives c → Starts w c
  unfolding pick
  started true c e h = let z : ◌≡◌ {A = ℕ} 0 1 = cc in absurd (omega arith)
  started false c e h = record {
    permitted = made_permitted _ _ _ c h;
    car = made_car _ _ _ c h;
    written = made_written _ _ _ c h ∙ ap gives (says_own e);
  }

  -- a word that starts a car and is written again has the same bits
  pub started_written : (c : Car) → start_of w ≡ gives c → Starts w c
  unfolding start_of
  started_written c h = started (other w) c refl h

  -- the car that a word starts is good
  pub started_good : (c : Car) → start_of w ≡ gives c → good_of c ≡ true
  started_good c h = let s = started_written c h in rw s.car (permitted_good _ _ _ s.permitted)

  -- a word is refused with 17 alone
  pub refused_17 : (n : ℕ) → start_of w ≡ refused n → n ≡ 17
  unfolding start_of fresh_of pick
  refused_17 n h = go (other w) (check17 (mode_of w) (signs_of w) (towing_of w)) _ h
    where
      go : (t u : Bool) (d : Car) → pick t (refused 17) (pick u (refused 17) (gives d)) ≡ refused n → n ≡ 17
      go true u d h = cc
      go false true d h = cc
      go false false d h = let z : ◌≡◌ {A = ℕ} 0 1 = cc in absurd (omega arith)

  -- and that exactly where it is the word of no permitted settings
  pub refused_no_word : (n mode signs towing : ℕ) → start_of w ≡ refused n → write_of mode signs towing ≡ gives w → ⊥
  refused_no_word n mode signs towing h is = let z : ◌≡◌ {A = ℕ} 0 1 = cc (written_started mode signs towing w is) in omega arith

  pub no_word_refused : ((mode signs towing : ℕ) → write_of mode signs towing ≡ gives w → ⊥) → start_of w ≡ refused 17
  no_word_refused none = go (start_of w) refl
    where
      go : (a : Answer Car) → start_of w ≡ a → start_of w ≡ refused 17
      go (gives c) h = absurd (none _ _ _ (started_written c h).written)
      go (refused n) h = h ∙ ap refused (refused_17 n h)
