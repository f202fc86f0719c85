-- What each way through the functions of this crate leaves, by what the calls on it give.
-- Assumes nothing.
use mathlib.Core.Bool.{Bool, true, false}
use mathlib.Core.List.{List}
use mathlib.Core.Path.{◌≡◌, refl, sym, ap, ◌∙◌}
use Prim.Native.Nat.{ℕ, ◌*◌, ◌≤◌}
use native.Mathlib.Omega.{arith}
use borrow.Author.Tests.{le-ltb}
use lib.ListN.{length, take}
use lib.Seq.{take_at}
use Rattle.std.specs.Prelude.{Ok, Err}
use Rattle.kit.specs.Pick.{pick_true, pick_false}
use Rattle.kit.specs.Placed.{placed, placed_nothing}
use Rattle.event.specs.declared.refusal.Refusal.{Refusal}
use Rattle.event.proofs.RefusalLaws.{number_pos}
use Rattle.car.specs.declared.Car.{Car}
use Rattle.car.specs.Good.{good_of}
use Rattle.car.specs.Lesson.{driven}
use Rattle.history.specs.History.{accepted_words}
use Rattle.history.proofs.AcceptedLaws.{accepted_few}
use Rattle.copy.specs.declared.Part as code
use Rattle.copy.specs.Copy.{Part, part_answer, too_short, copied_into, copied_part, uncopied_part, part_of, part_buffer}
use Rattle.wire.specs.Wire.{bytes_count, bytes_after}
use Rattle.wire.proofs.WireLaws.{bytes_fit}
use Rattle.cleaning.specs.declared.Turned.{Turned}
use Rattle.cleaning.specs.Pieces.{Turn, idle, driven_turn, words_turn, turn_of, turn_in, answered}

-- ---- nothing is done
pub undone : (out : List ℕ) {t : Turn} (c : Car) {r : Turned} → t ≡ idle c → r ≡ answered (idle c) → (r ≡ answered t) × (out ≡ placed out 0 t.bytes)
unfolding idle
undone out c e f = rw e (f, sym (placed_nothing out 0))

-- ---- the accepted ones of some words: copied into a buffer that has room for all, and put as bytes
module _ (c : Car) (ws buffer : List ℕ) (few : length ws ≤ 1024) (room : length buffer ≡ 1024) where
  fits : too_short c ws buffer ≡ false
  unfolding too_short
  fits = le-ltb (length buffer) (length (accepted_words c ws)) (omega (arith, accepted_few c ws))

  copied : good_of c ≡ true → (part_of c ws buffer ≡ copied_part c ws) × (part_buffer c ws buffer ≡ copied_into c ws buffer)
  unfolding part_of part_buffer
  copied g = (pick_true _ _ _ g ∙ pick_false _ _ _ fits, pick_true _ _ _ g ∙ pick_false _ _ _ fits)

  -- a copy that is refused had no good car
  pub not_good : (r : Refusal) → part_answer c (Err r) ≡ part_of c ws buffer → words_turn c ws ≡ idle c
  unfolding words_turn copied_part
  not_good r e = go (good_of c) refl
    where
      go : (t : Bool) → good_of c ≡ t → words_turn c ws ≡ idle c
      go true g = number_pos r _ (ap (λ (x : Part). x.refusal) (e ∙ (copied g).0)) refl
      go false g = pick_false _ _ _ g

  module _ (p : code.Part) (e : part_answer c (Ok p) ≡ part_of c ws buffer) where
    good : good_of c ≡ true
    unfolding part_of uncopied_part
    good = go (good_of c) refl
      where
        go : (t : Bool) → good_of c ≡ t → good_of c ≡ true
        go true g = g
        go false g = absurd (omega (arith, ap (λ (x : Part). x.refusal) (e ∙ pick_false _ _ _ g)))

    car_is : p.car ≡ driven c ws
    unfolding copied_part
    car_is = ap (λ (x : Part). x.car) (e ∙ (copied good).0)

    written_is : p.written ≡ length (accepted_words c ws)
    unfolding copied_part
    written_is = ap (λ (x : Part). x.written) (e ∙ (copied good).0)

    pub written_le : p.written ≤ 1024
    written_le = omega (arith, written_is, accepted_few c ws)

    taken : {after : List ℕ} → after ≡ part_buffer c ws buffer → take p.written after ≡ accepted_words c ws
    unfolding copied_into
    taken f = rw (f, (copied good).1) (take_at (accepted_words c ws) _ p.written (sym written_is))

    pub cleaned : (out : List ℕ) {copy after : List ℕ} {end : ℕ} → 4096 ≤ length out → copy ≡ part_buffer c ws buffer
        → (end ≡ bytes_count (take p.written copy) out) × (after ≡ bytes_after (take p.written copy) out)
        → (◌≡◌ {A = Turned} (record { car = p.car; used = 4 * length ws; end = end }) (answered (words_turn c ws))) × (after ≡ placed out 0 (words_turn c ws).bytes)
    unfolding words_turn driven_turn answered
    cleaned out h f w =
        let b = bytes_fit (accepted_words c ws) out (omega (arith, accepted_few c ws)) in
        rw (pick_true _ (driven_turn c ws) (idle c) good, w.0, w.1, taken f, b.0, b.1, car_is) (refl, refl)

-- ---- room for the bytes
module _ (out : List ℕ) (c : Car) (bs : List ℕ) where
  pub turn_room : 4096 ≤ length out → turn_in out c bs ≡ turn_of c bs
  unfolding turn_in
  turn_room h = pick_false _ _ _ (le-ltb _ _ h)
