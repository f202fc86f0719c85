-- An accepted record read and written again.
-- Assumes nothing.
use Rattle.std.specs.Prelude.{true, ◌≡◌, refl, List, ℕ, eqb}
use Rattle.std.proofs.Common.{sym, ◌∙◌, ap, arith, eqb-true}
use Rattle.std.proofs.lemmas.Bool.{eqb-false}
use Rattle.kit.specs.Answer.{gives}
use Rattle.kit.specs.Pick.{pick_true}
use Rattle.car.specs.declared.Car.{Car}
use Rattle.car.specs.Car.{with_gap}
use Rattle.car.specs.Good.{good_of}
use Rattle.record.specs.Layout.{packed, unpacked}
use Rattle.record.specs.LayoutShape.{Fits}
use Rattle.record.proofs.LayoutLaws.{good_fits, unpacked_packed}
use Rattle.record.specs.Record.{offered, read_of, write_of}
use Rattle.record.proofs.RecordLaws.{offered_30, read_accepted, read_good, read_written, packed_gap, read_packed_30, written_read, held_read}
use Rattle.longest_gap.specs.WrittenAgain.{holds_30, WrittenAgain, HeldRecord}

written_good : (c : Car) → good_of c ≡ true → write_of c ≡ record { refusal = 0; words = packed c }
unfolding write_of
written_good c g = pick_true _ _ _ g

gap_25 : (u : Car) → (with_gap u 25).gap ≡ 25
unfolding with_gap
gap_25 u = refl

pub written_again : (ws : List ℕ) (c : Car) → read_of ws ≡ gives c → WrittenAgain ws c
unfolding holds_30
written_again ws c h =
    let u = unpacked ws in
    let g = read_good ws c h in
    record {
      same = λ k. read_written ws c h (eqb-false u.gap 30 k);
      holds = λ k. (read_packed_30 ws c h (eqb-true u.gap 30 k)).0;
      differs = λ k. written_good c g ∙ ap (λ (x : List ℕ). record { refusal = 0; words = x }) (read_packed_30 ws c h (eqb-true u.gap 30 k)).1;
      gap = λ k. ap (λ (x : Car). x.gap) ((read_accepted ws c h).1 ∙ offered_30 u (eqb-true u.gap 30 k)) ∙ gap_25 u;
      again = (written_read c g).1;
    }

-- ---- a record that holds 30
gap_fits : (c : Car) → Fits c → Fits (with_gap c 30)
unfolding with_gap
gap_fits c f = omega arith

gap_back : (c : Car) → c.gap ≡ 25 → offered (with_gap c 30) ≡ c
unfolding with_gap
gap_back c e = offered_30 (with_gap c 30) refl ∙ ap (with_gap c) (sym e)

pub held_record : (c : Car) → good_of c ≡ true → c.gap ≡ 25 → HeldRecord c
unfolding holds_30 with_gap
held_record c g e =
    let f = gap_fits c (good_fits c g) in
    let b = gap_back c e in
    let p = sym (packed_gap c 30) in
    record {
      read = ap read_of p ∙ held_read (with_gap c 30) f (rw b g) ∙ ap gives b;
      holds = ap (λ (x : List ℕ). eqb (unpacked x).gap 30) p ∙ ap (λ (x : Car). eqb x.gap 30) (unpacked_packed (with_gap c 30) f);
    }
