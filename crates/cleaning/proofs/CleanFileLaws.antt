-- Every clean file is what `CleanFile` says.
-- Assumes nothing.
use Rattle.std.specs.Prelude.{List, [], ◌++◌, ◌≡◌, refl, ℕ, ◌%◌, ◌^◌, take, drop}
use Rattle.std.proofs.Common.{append-nil, sym, ap, ◌∙◌, arith, le-ltb, eq-eqb, take-append-drop, length-take-le}
use Rattle.std.proofs.Math.ListN.{length, length-append}
use Rattle.std.proofs.Math.Seq.{take_at, drop_at}
use Rattle.kit.specs.Answer.{Answer, gives, refused}
use Rattle.kit.specs.Pick.{pick, pick_true, pick_false}
use Rattle.car.specs.declared.Car.{Car}
use Rattle.car.proofs.StepLaws.{step_refusal}
use Rattle.history.proofs.AcceptedLaws.{accepted_again}
use Rattle.copy.specs.CleanCopy.{Sub, end, kept, left}
use Rattle.copy.proofs.CleanCopyLaws.{is_copy}
use Rattle.wire.specs.Wire.{words_of, bytes_of, Below}
use Rattle.wire.proofs.WireLaws.{bytes_length, words_below, words_bytes, below_drop}
use Rattle.exercise.specs.Exercise.{head_text, events_text, end_text, lesson_text, started_text, listing_of}
use Rattle.cleaning.specs.Cleaning.{open_of, clean_from, clean_of, end_refusal, refusal_from, clean_refusal}
use Rattle.cleaning.proofs.PiecesLaws.{opened, open_kept}
use Rattle.cleaning.specs.CleanFile.{file_words, clean_words, CleanFile}

-- what holds of each of the words holds of each of some of them
sub_below : (n : ℕ) {us ws : List ℕ} → Sub us ws → Below n ws → Below n us
sub_below n end h = h
sub_below n (kept w s) h = (h.0, sub_below n s h.1)
sub_below n (left w s) h = sub_below n s h.1

module _ (c : Car) (bs : List ℕ) (starts : open_of bs ≡ gives c) (bytes : Below 256 bs) where
  abbrev ws : List ℕ
  ws = clean_words c bs

  abbrev file : List ℕ
  file = take 4 bs ++ bytes_of ws

  file_is : clean_of bs ≡ file
  unfolding clean_of clean_from
  file_is = rw starts

  four : length (take 4 bs) ≡ 4
  four = length-take-le 4 bs (opened bs c starts).0

  file_starts : open_of file ≡ gives c
  file_starts =
      open_kept (take 4 bs) (bytes_of ws) (omega (arith, four)) ∙ sym (open_kept (take 4 bs) (drop 4 bs) (omega (arith, four)))
      ∙ ap open_of (take-append-drop 4 bs) ∙ starts

  words_back : words_of (bytes_of ws) ≡ ws
  words_back = words_bytes ws (sub_below (2 ^ 32) (is_copy c (file_words bs)).sub (words_below (drop 4 bs) (below_drop 256 4 bs bytes)))

  file_again : clean_of file ≡ file
  unfolding clean_of clean_from
  file_again = rw (file_starts, take_at (take 4 bs) (bytes_of ws) 4 four, drop_at (take 4 bs) (bytes_of ws) 4 four, words_back, accepted_again c (file_words bs))

  file_told : clean_refusal file ≡ 0
  unfolding clean_refusal refusal_from end_refusal pick
  file_told =
      let all : length file % 4 ≡ 0 = omega (arith, four, length-append (take 4 bs) (bytes_of ws), bytes_length ws) in
      rw (file_starts, all)

  file_listing : listing_of file ≡ head_text ++ events_text 1 c ws
  unfolding listing_of started_text lesson_text end_text
  file_listing =
      let s = opened file c file_starts in
      let whole : length (bytes_of ws) % 4 ≡ 0 = omega (arith, bytes_length ws) in
      pick_false _ _ _ (le-ltb _ _ s.0)
      ∙ rw (s.1, drop_at (take 4 bs) (bytes_of ws) 4 four, words_back, pick_true _ _ _ (eq-eqb _ _ whole), append-nil)

  pub clean_file : CleanFile c bs
  clean_file = record {
    again = rw file_is file_again;
    again_told = rw file_is file_told;
    listing = rw file_is file_listing;
    no_refusal = λ us w vs e. step_refusal _ w ∙ (is_copy c (file_words bs)).clean_each us w vs e;
    same = (is_copy c (file_words bs)).same;
  }

-- `clean` of any clean file, after refused settings too
pub clean_again : (bs : List ℕ) → Below 256 bs → clean_of (clean_of bs) ≡ clean_of bs
unfolding clean_of clean_from open_of pick
clean_again bs h = go (open_of bs) refl
  where
    go : (a : Answer Car) → open_of bs ≡ a → clean_of (clean_of bs) ≡ clean_of bs
    go (gives c) e = (clean_file c bs e h).again
    go (refused n) e = let none : clean_of bs ≡ [] = rw e in rw none
