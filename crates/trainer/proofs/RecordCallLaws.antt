-- Laws of the record call, by equations, as the code's exits have them.
-- Assumes nothing.
use Rattle.std.specs.Prelude.{◌≡◌, refl, Result, Ok, Err, List, ℕ, ◌<◌, length, take}
use Rattle.std.proofs.Common.{sym, ap, ◌∙◌, arith, eq-eqb, ne_eqb, length-take}
use Rattle.kit.specs.Pick.{pick_true, pick_false}
use Rattle.event.specs.declared.refusal.Refusal.{Refusal}
use Rattle.event.specs.Refusal.{answer}
use Rattle.car.specs.declared.Car.{Car}
use Rattle.record.specs.Record.{read_of, saved_refusal, saved_buffer}
use Rattle.record.proofs.RecordLaws.{not_accepted}
use Rattle.trainer.specs.RecordCall.{Kept, keep_answer, read_back, kept_of}

-- what a reading back says
pub kept_answer : (c : Car) (r : Result Car Refusal) → keep_answer c r ≡ read_back c (answer r)
unfolding read_back
kept_answer c (Ok d) = refl
kept_answer c (Err r) = refl

-- fewer than twelve words are no record
pub short_unread : (c : Car) (ws : List ℕ) → length ws < 12 → read_back c (read_of (take 12 ws)) ≡ record { car = c; refusal = 18 }
unfolding read_back
short_unread c ws h = rw (not_accepted (take 12 ws) (λ a. let t = rw (length-take 12 ws) at a.twelve in omega arith))

-- refused: the car is kept
pub kept_refused : (c : Car) (ws : List ℕ) (r : ℕ) → r ≡ saved_refusal c ws → (r ≡ 0 → ⊥) → record { car = c; refusal = r } ≡ kept_of c ws
unfolding kept_of
kept_refused c ws r e n = rw e (sym (pick_false _ _ _ (ne_eqb _ 0 (λ z. n (e ∙ z)))))

-- written: the car is the one read from the buffer's words
pub kept_read : (c : Car) (ws after : List ℕ) (r : ℕ) (k : Kept) → r ≡ saved_refusal c ws → r ≡ 0 → after ≡ saved_buffer c ws
    → k ≡ read_back c (read_of (take 12 after)) → k ≡ kept_of c ws
unfolding kept_of
kept_read c ws after r k e z b h =
    h ∙ ap (λ (x : List ℕ). read_back c (read_of (take 12 x))) b ∙ sym (pick_true _ _ _ (eq-eqb _ 0 (sym e ∙ z)))
