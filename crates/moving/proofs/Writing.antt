-- The texts put: a line for each word, a refusal's sentence, and which of the two the end of a file has.
-- Assumes nothing.
use Rattle.std.specs.Prelude.{List, [], ◌∷◌, Ok, Err, ◌≡◌, refl, ℕ, ◌*◌, ◌≤◌, eqb, length, take}
use Rattle.std.proofs.Common.{sym, ap, ◌∙◌, arith, ne_eqb, length-append}
use Rattle.kit.specs.Pick.{pick, pick_false, pick_case}
use Rattle.event.specs.declared.refusal.Refusal.{Refusal}
use Rattle.event.specs.Refusal.{refusal_number}
use Rattle.event.proofs.RefusalLaws.{number_pos}
use Rattle.car.specs.declared.Car.{Car}
use Rattle.listing.specs.Listing.{ascii, refused_text, word_line}
use Rattle.cleaning.specs.Cleaning.{end_refusal}
use Rattle.lever.specs.declared.Moves as lever
use Rattle.lever.specs.Fewest.{Moves, turned_away, moves_answer}
use Rattle.lever.specs.FewestShape.{fewest_of}
use Rattle.lever.proofs.FewestLaws.{count_six}
use Rattle.moving.specs.Moving.{word_lines, sentence, end_answer, answer_text, end_text}

-- ---- a line for each word
pub line_nine : (w : ℕ) → length (word_line w) ≡ 9
unfolding word_line ascii
line_nine w = refl

pub lines_length : (ws : List ℕ) → length (word_lines ws) ≡ 9 * length ws
unfolding word_lines
lines_length [] = refl
lines_length (w ∷ ws) = omega (arith, length-append (word_line w) (word_lines ws), line_nine w, lines_length ws)

-- ---- a refusal that no file comes to
pub other_sentence : (n : ℕ) → (n ≡ 17 → ⊥) → (n ≡ 21 → ⊥) → (n ≡ 25 → ⊥) → (n ≡ 26 → ⊥) → sentence n ≡ refused_text n
unfolding sentence
other_sentence n a b c d =
    pick_false _ _ _ (ne_eqb n 17 a) ∙ pick_false _ _ _ (ne_eqb n 21 b) ∙ pick_false _ _ _ (ne_eqb n 25 c) ∙ pick_false _ _ _ (ne_eqb n 26 d)

-- ---- the end of a file
module _ (wanted : ℕ) (c : Car) (held : ℕ) where
  pub few : (m : lever.Moves) → moves_answer (Ok m) ≡ end_answer wanted c held → m.count ≤ 6
  unfolding end_answer turned_away
  few m e =
      let k = pick_case (λ (a : Moves). a.count ≤ 6) (eqb (end_refusal held) 0) (fewest_of c wanted) (turned_away (end_refusal held)) (λ _. count_six c wanted) (λ _. omega arith) in
      omega (arith, k, ap (λ (a : Moves). a.count) e)

  pub list_text : (m : lever.Moves) → moves_answer (Ok m) ≡ end_answer wanted c held → end_text wanted c held ≡ word_lines (take m.count m.words)
  unfolding end_text answer_text pick
  list_text m e = ap answer_text (sym e)

  pub refusal_sentence : (r : Refusal) → moves_answer (Err r) ≡ end_answer wanted c held → end_text wanted c held ≡ sentence (refusal_number r)
  unfolding end_text answer_text turned_away
  refusal_sentence r e = ap answer_text (sym e) ∙ pick_false _ _ _ (ne_eqb (refusal_number r) 0 (λ z. number_pos r _ refl z))
