-- A lesson driven part by part: one part of it, and what the loops that count and that write keep. What is left gives the whole.
-- Assumes nothing.
use Rattle.std.specs.Prelude.{Ok, Err, true, ◌≡◌, refl, List, [], ◌∷◌, ◌++◌, ℕ, ◌+◌, ◌-◌, ◌≤◌, ◌<◌, ltb, length, take, drop, get_or, set}
use Rattle.std.proofs.Common.{sym, ap, ◌∙◌, zero-add, arith, length-append, length-take-le, take_all}
use Rattle.std.proofs.lemmas.List.{nil_from_length, take_more}
use borrow.Author.Tests.{lt-ltb, le-ltb}
use Rattle.kit.specs.Pick.{pick, pick_true, pick_false}
use Rattle.kit.specs.Placed.{placed, placed_nothing, placed_length, placed_more, placed_one, placed_first}
use Rattle.event.specs.declared.refusal.Refusal.{Refusal}
use Rattle.event.proofs.RefusalLaws.{number_pos}
use Rattle.car.specs.declared.Car.{Car}
use Rattle.car.specs.declared.lesson.Taught as lesson
use Rattle.car.specs.Good.{good_of}
use Rattle.car.specs.Lesson.{Taught, lesson_answer, driven, answers_of, refused_of, taught_of, lesson_of, each_after, answers_after}
use Rattle.car.proofs.LessonLaws.{driven_good}
use Rattle.history.specs.History.{accepted_words}
use Rattle.history.proofs.HistoryLaws.{driven_append}
use Rattle.history.proofs.AcceptedLaws.{accepted_whole, accepted_append, accepted_count, accepted_few}
use Rattle.copy.specs.Copy.{copied_into, copied_part}
use Rattle.copy.specs.CopyShape.{sifted_word, sifted}
use Rattle.copy.proofs.CopyShapeLaws.{sifted_accepted}

-- ---- one part of a good car's lesson, driven with room for its answers
module _ (c : Car) (part answers₀ : List ℕ) (good : good_of c ≡ true) (room : length part ≤ length answers₀) where
  ran : lesson_of c part answers₀ ≡ taught_of c part
  unfolding lesson_of
  ran = pick_true _ _ _ good ∙ pick_false _ _ _ (le-ltb _ _ room)

  answered : answers_after c part answers₀ ≡ answers_of c part ++ drop (length part) answers₀
  unfolding each_after
  answered = pick_true _ _ _ good ∙ pick_false _ _ _ (le-ltb _ _ room)

  pub siftings : sifted part (answers_after c part answers₀) ≡ accepted_words c part
  siftings = rw answered (sifted_accepted c part (drop (length part) answers₀) good)

  -- it is not refused,
  pub no_refusal : {A : Type 0} (r : Refusal) → lesson_answer c (Err r) ≡ lesson_of c part answers₀ → A
  unfolding taught_of
  no_refusal r e = number_pos r _ (ap (λ (x : Taught). x.refusal) (e ∙ ran)) refl

  -- and gives the car behind it and its counts
  module _ (t : lesson.Taught) (e : lesson_answer c (Ok t) ≡ lesson_of c part answers₀) where
    pub car_is : t.car ≡ driven c part
    unfolding taught_of
    car_is = ap (λ (x : Taught). x.car) (e ∙ ran)

    pub accepted_is : t.accepted ≡ length (accepted_words c part)
    unfolding taught_of
    accepted_is = ap (λ (x : Taught). x.accepted) (e ∙ ran) ∙ sym (accepted_count c part)

    pub refused_is : t.refused ≡ refused_of c part
    unfolding taught_of
    refused_is = ap (λ (x : Taught). x.refused) (e ∙ ran)

-- what a part and the words behind it accept
module _ (c : Car) (rest part behind : List ℕ) (split : rest ≡ part ++ behind) where
  accepted_on : accepted_words c rest ≡ accepted_words c part ++ accepted_words (driven c part) behind
  accepted_on = ap (accepted_words c) split ∙ accepted_append c part behind

  count_on : length (accepted_words c rest) ≡ length (accepted_words c part) + length (accepted_words (driven c part) behind)
  count_on = ap length accepted_on ∙ length-append (accepted_words c part) (accepted_words (driven c part) behind)

  driven_on : driven c rest ≡ driven (driven c part) behind
  driven_on = ap (driven c) split ∙ driven_append c part behind

-- ---- the loop that counts: the room that is left, and how many words are ahead
pub record Counting (first : Car) (ws : List ℕ) (room : ℕ) (car : Car) (rest : List ℕ) (left ahead : ℕ) : Type 0 where
  pub good : good_of car ≡ true
  pub ahead_is : ahead ≡ length rest
  pub whole : left + length (accepted_words first ws) ≡ room + length (accepted_words car rest)

module _ (first : Car) (ws : List ℕ) (room : ℕ) where
  module _ (car : Car) (rest : List ℕ) (left ahead : ℕ) (g : Counting first ws room car rest left ahead) where
    -- what is ahead fits, accepted or not
    pub counting_ends : ahead ≤ left → ◌≡◌ {A = ℕ} 0 (pick (ltb room (length (accepted_words first ws))) 19 0)
    counting_ends h = sym (pick_false _ _ _ (le-ltb room (length (accepted_words first ws)) (omega (arith, g.whole, g.ahead_is, accepted_few car rest))))

    module _ (part behind answers : List ℕ) (split : rest ≡ part ++ behind) (few : length part ≤ length answers) (t : lesson.Taught) (e : lesson_answer car (Ok t) ≡ lesson_of car part answers) where
      counted : t.accepted ≡ length (accepted_words car part)
      counted = accepted_is car part answers g.good few t e

      on : length (accepted_words car rest) ≡ length (accepted_words car part) + length (accepted_words (driven car part) behind)
      on = count_on car rest part behind split

      -- more than there is room for
      pub counting_short : left < t.accepted → ◌≡◌ {A = ℕ} 19 (pick (ltb room (length (accepted_words first ws))) 19 0)
      counting_short h = sym (pick_true _ _ _ (lt-ltb room (length (accepted_words first ws)) (omega (arith, counted, on, g.whole))))

      pub counting_again : t.accepted ≤ left → Counting first ws room t.car behind (left - t.accepted) (ahead - length part)
      counting_again h = rw (car_is car part answers g.good few t e) (record {
        good = driven_good car part g.good;
        ahead_is = omega (arith, g.ahead_is, ap length split ∙ length-append part behind);
        whole = omega (arith, counted, on, g.whole);
      })

-- ---- the loop that writes
pub record Writing (first : Car) (ws copy₀ : List ℕ) (car : Car) (rest copy : List ℕ) (count : ℕ) : Type 0 where
  pub good : good_of car ≡ true
  pub same_copy : length copy ≡ length copy₀
  pub same_car : driven car rest ≡ driven first ws
  pub whole : count + length (accepted_words car rest) ≡ length (accepted_words first ws)
  pub buffer : placed copy count (accepted_words car rest) ≡ copied_into first ws copy₀

module _ (first : Car) (ws copy₀ : List ℕ) (room : length (accepted_words first ws) ≤ length copy₀) where
  pub writing_begins : {rest : List ℕ} → good_of first ≡ true → rest ≡ ws → Writing first ws copy₀ first rest copy₀ 0
  unfolding copied_into
  writing_begins g e = rw e (record { good = g; same_copy = refl; same_car = refl; whole = zero-add _; buffer = placed_first copy₀ (accepted_words first ws) })

  module _ (car : Car) (rest copy : List ℕ) (count : ℕ) (g : Writing first ws copy₀ car rest copy count) where
    pub writing_ends : length rest ≡ 0 → (record { car = car; written = count; refusal = 0 } ≡ copied_part first ws) × (copy ≡ copied_into first ws copy₀)
    unfolding copied_part driven accepted_words
    writing_ends h =
        let none : rest ≡ [] = nil_from_length rest h in
        let n : count ≡ length (accepted_words first ws) = omega (arith, rw none at g.whole) in
        (rw (n, rw none at g.same_car) refl, sym (placed_nothing copy count) ∙ rw none at g.buffer)

    module _ (part behind answers answers' : List ℕ) (split : rest ≡ part ++ behind) (few : length part ≤ length answers) (t : lesson.Taught)
        (e : lesson_answer car (Ok t) ≡ lesson_of car part answers) (said : answers' ≡ answers_after car part answers) where
      abbrev found : List ℕ
      found = accepted_words car part

      accepted_part : sifted part answers' ≡ found
      accepted_part = rw said (siftings car part answers g.good few)

      counted_found : t.accepted ≡ length found
      counted_found = accepted_is car part answers g.good few t e

      found_room : count + length found ≤ length copy
      found_room = omega (arith, count_on car rest part behind split, g.whole, g.same_copy, room)

      -- a part of which none is refused is its own accepted words, and its accepted ones have room
      pub put_room : (t.refused ≡ 0 → sifted part answers' ≡ part) × (count + length (sifted part answers') ≤ length copy)
      put_room = (λ z. accepted_part ∙ accepted_whole car part (sym (refused_is car part answers g.good few t e) ∙ z), rw accepted_part found_room)

      pub written_few : count + t.accepted ≤ length copy
      written_few = omega (arith, counted_found, found_room)

      pub writing_again : {copy' : List ℕ} → copy' ≡ placed copy count (sifted part answers') → Writing first ws copy₀ t.car behind copy' (count + t.accepted)
      writing_again {copy'} ec = rw (car_is car part answers g.good few t e, counted_found) (record {
        good = driven_good car part g.good;
        same_copy = rw put_is (placed_length copy count found found_room ∙ g.same_copy);
        same_car = sym (driven_on car rest part behind split) ∙ g.same_car;
        whole = omega (arith, count_on car rest part behind split, g.whole);
        buffer = rw put_is (placed_more copy count found more (omega (arith, found_room)) ∙ ap (placed copy count) (sym (accepted_on car rest part behind split)) ∙ g.buffer);
      })
        where
          more : List ℕ
          more = accepted_words (driven car part) behind

          put_is : copy' ≡ placed copy count found
          put_is = rw accepted_part at ec

-- ---- the loop over the words of a part and their answers, of which these are left
pub record Sifting (ws said copy₀ copy : List ℕ) (at end : ℕ) (words answers : List ℕ) : Type 0 where
  pub same : length copy ≡ length copy₀
  pub whole : end + length (sifted words answers) ≡ at + length (sifted ws said)
  pub buffer : placed copy end (sifted words answers) ≡ placed copy₀ at (sifted ws said)

module _ (ws said copy₀ copy : List ℕ) (at end : ℕ) (words answers : List ℕ) (g : Sifting ws said copy₀ copy at end words answers) where
  module _ (w a : ℕ) (more others : List ℕ) (ew : words ≡ w ∷ more) (ea : answers ≡ a ∷ others) (room : at + length (sifted ws said) ≤ length copy₀) where
    next : sifted words answers ≡ sifted_word w a ++ sifted more others
    unfolding sifted
    next = rw (ew, ea) refl

    next_length : length (sifted words answers) ≡ length (sifted_word w a) + length (sifted more others)
    next_length = ap length next ∙ length-append (sifted_word w a) (sifted more others)

    pub word_room : end + length (sifted_word w a) ≤ length copy
    word_room = omega (arith, next_length, g.whole, g.same, room)

    pub sifting_again : {copy' : List ℕ} {end' : ℕ} → end' ≡ end + length (sifted_word w a) → copy' ≡ placed copy end (sifted_word w a) → Sifting ws said copy₀ copy' at end' more others
    sifting_again e f = record {
      same = rw f (placed_length copy end (sifted_word w a) word_room ∙ g.same);
      whole = rw e (omega (arith, next_length, g.whole));
      buffer = rw (e, f) (placed_more copy end (sifted_word w a) (sifted more others) (omega (arith, word_room)) ∙ ap (placed copy end) (sym next) ∙ g.buffer);
    }

  ends : sifted words answers ≡ [] → copy ≡ placed copy₀ at (sifted ws said)
  ends none = sym (placed_nothing copy end) ∙ ap (placed copy end) (sym none) ∙ g.buffer

  pub words_end : length words ≡ 0 → copy ≡ placed copy₀ at (sifted ws said)
  unfolding sifted
  words_end h = ends (rw (nil_from_length words h) refl)

  pub answers_end : length answers ≡ 0 → copy ≡ placed copy₀ at (sifted ws said)
  unfolding sifted
  answers_end h = ends (rw (nil_from_length answers h) (no_answers words))
    where
      no_answers : (us : List ℕ) → sifted us [] ≡ []
      no_answers [] = refl
      no_answers (u ∷ us) = refl

-- ---- the loop over the words of a part that are all put
module _ (ws copy₀ : List ℕ) (at : ℕ) (room : at + length ws ≤ length copy₀) where
  pub all_again : {copy : List ℕ} (i : ℕ) → i < length ws → copy ≡ placed copy₀ at (take i ws) → set copy (at + i) (get_or ws i 0) ≡ placed copy₀ at (take (i + 1) ws)
  all_again {copy} i h e =
      let n = length-take-le i ws (omega arith) in
      let place : at + i ≡ at + length (take i ws) = omega (arith, n) in
      let long : length (placed copy₀ at (take i ws)) ≡ length copy₀ = placed_length copy₀ at (take i ws) (omega (arith, n)) in
      rw (e, place, take_more ws i 0 h) (placed_one (placed copy₀ at (take i ws)) _ (get_or ws i 0) (omega (arith, n, long)) ∙ placed_more copy₀ at (take i ws) (get_or ws i 0 ∷ []) (omega arith))

  pub all_ends : {copy : List ℕ} {i : ℕ} → length ws ≤ i → copy ≡ placed copy₀ at (take i ws) → copy ≡ placed copy₀ at ws
  all_ends {i = i} h e = e ∙ ap (placed copy₀ at) (take_all i ws h)
