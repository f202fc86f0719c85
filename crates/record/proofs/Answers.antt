-- Each way out of the calls, by the equations that their calls and tests give.
-- Assumes nothing.
use Rattle.std.specs.Result.{is_ok}
use Rattle.std.specs.Prelude.{Result, Ok, Err, true, false, not, ◌≡◌, refl, List, ◌++◌, ℕ, ◌≤◌, ◌<◌, length, drop, replicate, nat_eq}
use Rattle.std.proofs.Common.{true≢false, sym, ap, ◌∙◌}
use Rattle.std.proofs.lemmas.Bool.{not-false}
use Rattle.kit.specs.Answer.{gives, refused}
use Rattle.kit.specs.Pick.{pick_true, pick_false, picks, and_both, and_left, and_right, not_is}
use Rattle.car.specs.declared.Car.{Car}
use Rattle.car.specs.Good.{good_of}
use Rattle.record.specs.Layout.{packed, unpacked}
use Rattle.record.specs.Record.{Written, same_words, write_of, offered, read_of, saved_refusal, saved_buffer}
use Rattle.record.proofs.RecordLaws.{same_eq, same_self, not_accepted, written_yes, written_no}
use Rattle.record.proofs.Sameness.{pointwise_same}
use lib.Pointwise.{pointwise}

pub write_yes : (c : Car) (p : List ℕ) → good_of c ≡ true → p ≡ packed c → record { refusal = 0; words = p } ≡ write_of c
unfolding write_of
write_yes c p g e = rw e (sym (pick_true _ _ _ g))

pub write_no : (c : Car) → good_of c ≡ false → record { refusal = 18; words = replicate 12 0 } ≡ write_of c
unfolding write_of
write_no c g = sym (pick_false _ _ _ g)

-- ---- the car that words' fields say, and that car's words p, compared with them
module _ (ws : List ℕ) (c : Car) (p : List ℕ) (e : c ≡ unpacked ws) (h : p ≡ packed c) where
  pub equal : not (pointwise nat_eq p ws) ≡ false → packed c ≡ ws
  equal t = sym h ∙ same_eq p ws (sym (pointwise_same p ws) ∙ not-false _ t)

  pub read_yes : good_of (offered c) ≡ true → packed c ≡ ws → gives (offered c) ≡ read_of ws
  unfolding read_of
  read_yes g q = rw e (sym (pick_true _ _ _ (and_both _ _ (rw e at g) (rw (rw e at q) (same_self ws)))))

  pub read_other : not (pointwise nat_eq p ws) ≡ true → refused 18 ≡ read_of ws
  unfolding read_of
  read_other t =
      let s : same_words (packed (unpacked ws)) ws ≡ false = rw (h ∙ ap packed e) at (sym (pointwise_same p ws) ∙ not_is _ t) in
      sym (pick_false _ _ _ (and_right (good_of (offered (unpacked ws))) _ s))

pub read_no : (ws : List ℕ) (c : Car) → c ≡ unpacked ws → good_of (offered c) ≡ false → refused 18 ≡ read_of ws
unfolding read_of
read_no ws c e g = sym (pick_false _ _ _ (and_left (good_of (offered (unpacked ws))) (same_words (packed (unpacked ws)) ws) (rw e at g)))

pub read_length : (ws : List ℕ) → (length ws ≡ 12 → ⊥) → refused 18 ≡ read_of ws
read_length ws h = sym (not_accepted ws (λ a. h a.twelve))

-- a result that is not one of another length
pub no_array : {A E : Type 0} (r : Result A E) → is_ok r ≡ true → ((x : A) → r ≡ Ok x → ⊥) → ⊥
no_array (Ok x) t n = n x refl
no_array (Err e) t n = true≢false (sym t)

-- ---- into a buffer, by what the writer by value gave
module _ (c : Car) (b : List ℕ) (w : Written) (e : w ≡ write_of c) where
  pub save_no : (w.refusal ≡ 0 → ⊥) → (w.refusal ≡ saved_refusal c b) × (b ≡ saved_buffer c b)
  unfolding saved_refusal saved_buffer
  save_no n =
      let g = written_no c (λ z. n (rw e z)) in
      let r : w.refusal ≡ 18 = rw e g.0 in
      rw r (sym (pick_false _ _ _ g.1), sym (pick_false _ _ _ g.1))

  pub save_short : w.refusal ≡ 0 → length b < 12 → (20 ≡ saved_refusal c b) × (b ≡ saved_buffer c b)
  unfolding saved_refusal saved_buffer
  save_short z h = let g = (written_yes c (rw e at z)).1 in (search picks, search picks)

  pub save_yes : (x : List ℕ) → w.refusal ≡ 0 → 12 ≤ length b → x ≡ w.words → (0 ≡ saved_refusal c b) × (x ++ drop 12 b ≡ saved_buffer c b)
  unfolding saved_refusal saved_buffer
  save_yes x z h f =
      let y = written_yes c (rw e at z) in
      let p : x ≡ packed c = f ∙ rw e y.0 in
      let g = y.1 in
      rw p (search picks, search picks)
