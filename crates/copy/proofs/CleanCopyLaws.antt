-- The clean copy is what document 02, §2 says, of every permitted settings, every list of words and every buffer; all other settings are 17.
-- Assumes nothing.
use Rattle.std.proofs.Math.Bool.{true, false}
use Rattle.std.specs.Prelude.{◌≡◌, refl, List, [], ◌∷◌, ℕ, ◌≤◌, ◌<◌, length}
use Rattle.std.proofs.Common.{ap, ◌∙◌, arith}
use borrow.Author.Tests.{lt-ltb, le-ltb}
use Rattle.std.proofs.Math.Seq.{take-append_seam, drop-append_seam}
use Rattle.kit.specs.Pick.{pick, pick_true, pick_false}
use Rattle.car.specs.declared.Car.{Car}
use Rattle.car.specs.Car.{fresh_car, settings_of, Permitted}
use Rattle.car.specs.Drive.{step_of}
use Rattle.car.proofs.FreshLaws.{permitted_fresh, other_17}
use Rattle.car.specs.Lesson.{accepted_of}
use Rattle.history.specs.History.{accepted_words}
use Rattle.history.proofs.AcceptedLaws.{by_word, accepted_same, accepted_clean, none_refused, accepted_again, accepted_count}
use Rattle.copy.specs.Copy.{too_short, copied_into, written, unwritten, started_copy, started_buffer, copy_of, copy_buffer}
use Rattle.copy.specs.CleanCopy.{Sub, end, kept, left, copy_in, IsCopy, CleanCopy}

accepted_sub : (c : Car) (ws : List ℕ) → Sub (accepted_words c ws) ws
unfolding accepted_words pick
accepted_sub c [] = end
accepted_sub c (w ∷ ws) =
    let i = accepted_sub (step_of c w).car ws in
    by_word c w (λ t a r. rw t (kept w i)) (λ t a r k. rw t (left w i))

-- of every car, good or not
pub is_copy : (c : Car) (ws : List ℕ) → IsCopy c ws (accepted_words c ws)
is_copy c ws = record {
  clean = accepted_clean c ws;
  clean_each = λ us w vs e. none_refused c us w vs (rw e at (accepted_clean c ws));
  same = accepted_same c ws;
  words = refl;
  sub = accepted_sub c ws;
  count = accepted_count c ws;
}

module _ (mode signs towing : ℕ) (p : Permitted mode signs towing) where
  abbrev c : Car
  c = fresh_car (settings_of mode signs towing)

  module _ (ws buffer : List ℕ) where
    does_fit : accepted_of c ws ≤ length buffer → (copy_of mode signs towing ws buffer ≡ written c ws) × (copy_buffer mode signs towing ws buffer ≡ copied_into c ws buffer)
    unfolding copy_of copy_buffer started_copy started_buffer too_short
    does_fit h = rw (permitted_fresh mode signs towing p) (pick_false _ _ _ room, pick_false _ _ _ room)
      where
        room : too_short c ws buffer ≡ false
        room = le-ltb (length buffer) (length (accepted_words c ws)) (omega (arith, accepted_count c ws))

    no_fit : length buffer < accepted_of c ws → (copy_of mode signs towing ws buffer ≡ unwritten 19) × (copy_buffer mode signs towing ws buffer ≡ buffer)
    unfolding copy_of copy_buffer started_copy started_buffer too_short
    no_fit h = rw (permitted_fresh mode signs towing p) (pick_true _ _ _ room, pick_true _ _ _ room)
      where
        room : too_short c ws buffer ≡ true
        room = lt-ltb (length buffer) (length (accepted_words c ws)) (omega (arith, accepted_count c ws))

    stands : accepted_of c ws ≤ length buffer → copy_in mode signs towing ws buffer ≡ accepted_words c ws
    unfolding written copied_into
    stands h = let f = does_fit h in rw (f.0, f.1) (take-append_seam (accepted_words c ws) _)

  module _ (ws buffer other : List ℕ) (h : accepted_of c ws ≤ length buffer) (k : accepted_of c ws ≤ length other) where
    fits_again : accepted_of c (accepted_words c ws) ≤ length other
    fits_again = omega (arith, accepted_count c ws, accepted_count c (accepted_words c ws), ap length (accepted_again c ws))

    number_again : copy_of mode signs towing (copy_in mode signs towing ws buffer) other ≡ copy_of mode signs towing ws buffer
    unfolding written
    number_again = rw (stands ws buffer h, (does_fit (accepted_words c ws) other fits_again).0, (does_fit ws buffer h).0, accepted_again c ws)

    words_again : copy_in mode signs towing (copy_in mode signs towing ws buffer) other ≡ copy_in mode signs towing ws buffer
    words_again = rw (stands ws buffer h) (stands (accepted_words c ws) other fits_again ∙ accepted_again c ws)

  pub clean_copy : (ws : List ℕ) → CleanCopy mode signs towing (fresh_car (settings_of mode signs towing)) ws
  unfolding written unwritten copied_into
  clean_copy ws = record {
    number = λ buffer h. (does_fit ws buffer h).0 ∙ rw (accepted_count c ws);
    copied = λ buffer h. rw (stands ws buffer h) (is_copy c ws);
    past = λ buffer h. rw ((does_fit ws buffer h).1, ← accepted_count c ws) (drop-append_seam (accepted_words c ws) _);
    again_number = number_again ws;
    again = words_again ws;
    short = λ buffer h. (no_fit ws buffer h).0;
    untouched = λ buffer h. (no_fit ws buffer h).1;
  }

-- "bad settings are looked at before that", whatever the buffer's length
pub bad_settings : (mode signs towing : ℕ) → (Permitted mode signs towing → ⊥) → (ws buffer : List ℕ)
    → (copy_of mode signs towing ws buffer ≡ unwritten 17) × (copy_buffer mode signs towing ws buffer ≡ buffer)
unfolding copy_of copy_buffer started_copy started_buffer
bad_settings mode signs towing n ws buffer = let e = other_17 mode signs towing n in (rw e, rw e)
