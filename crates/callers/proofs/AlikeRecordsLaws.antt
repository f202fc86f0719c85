-- Records that `cruise_alike` answers 1 for stay so, and their lessons give the same.
-- Assumes nothing.
use Rattle.std.specs.Prelude.{Bool, true, false, ◌≡◌, refl, List, ℕ, eqb, ltb, length}
use Rattle.std.proofs.Common.{sym, ap, ◌∙◌, arith, eqb-true}
use Rattle.std.proofs.lemmas.Bool.{eqb-false}
use Rattle.kit.specs.Answer.{Answer, gives, refused}
use Rattle.kit.specs.Pick.{pick, either}
use Rattle.event.specs.Words.{bit_of}
use Rattle.car.specs.declared.Car.{Car}
use Rattle.car.specs.Good.{good_of}
use Rattle.car.specs.Lesson.{taught_of, untaught, lesson_of, answers_after}
use Rattle.car.proofs.LessonLaws.{driven_good}
use Rattle.record.specs.Record.{read_of}
use Rattle.record.proofs.RecordLaws.{packed_read, read_good}
use Rattle.record.specs.RecordLesson.{words_left, lesson_left}
use Rattle.alike.specs.Alike.{alike_of}
use Rattle.alike.specs.StayAlike.{SameLesson}
use Rattle.alike.proofs.StayLaws.{together_all, same_lesson}
use Rattle.cruise.specs.Cruise.{alike_answer}
use Rattle.callers.proofs.LeftLaws.{lesson_refused, lesson_kept, lesson_written}
use Rattle.callers.specs.Callers.{left}
use Rattle.callers.specs.AlikeRecords.{taken, Roomy, SameLeft, AlikeRecords}

bit_one : (t : Bool) → bit_of t ≡ 1 → t ≡ true
unfolding bit_of pick
bit_one true e = refl
bit_one false e = absurd (omega arith)

lesson_good : (c : Car) (ws buffer : List ℕ) → good_of c ≡ true → good_of (lesson_of c ws buffer).car ≡ true
unfolding lesson_of pick taught_of untaught
lesson_good c ws buffer g =
    either (ltb (length buffer) (length ws))
    (λ s. rw (g, s) g)
    (λ s. rw (g, s) (driven_good c ws g))

module _ (events answers : List ℕ) where
  -- what a lesson leaves of a record is one of its car, kept or written
  read_left : (p : List ℕ) (c : Car) → read_of p ≡ gives c → read_of (words_left 0 p (lesson_of c events answers)) ≡ gives (lesson_of c events answers).car
  read_left p c i =
      let t = lesson_of c events answers in
      either (eqb t.refusal 0)
      (λ z. ap read_of (lesson_written p t (eqb-true t.refusal 0 z)) ∙ packed_read t.car (lesson_good c events answers (read_good p c i)))
      (λ z. let n = eqb-false t.refusal 0 z in ap read_of (lesson_kept p t n) ∙ i ∙ ap gives (sym (lesson_refused c events answers n)))

  same_left : (p q : List ℕ) (c d : Car) → read_of p ≡ gives c → read_of q ≡ gives d
      → SameLesson (lesson_of c events answers) (lesson_of d events answers) (answers_after c events answers) (answers_after d events answers)
      → SameLeft (lesson_left 0 p (gives c) events answers) (lesson_left 0 q (gives d) events answers)
  unfolding lesson_left alike_answer bit_of pick
  same_left p q c d i j s =
      record {
        refusal = s.refusal;
        accepted = s.accepted;
        refused = s.refused;
        answers = s.answers;
        alike = rw (read_left p c i, read_left q d j, s.alike) refl;
      }

  pub alike_records : (p q : List ℕ) → alike_answer (read_of p) (read_of q) ≡ 1 → AlikeRecords p q events answers
  unfolding left alike_answer taken Roomy
  alike_records p q e = go (read_of p) (read_of q) refl refl e
    where
      go : (r s : Answer Car) → read_of p ≡ r → read_of q ≡ s → alike_answer r s ≡ 1 → AlikeRecords p q events answers
      go (gives c) (gives d) i j e =
          let g = read_good p c i in
          let h = read_good q d j in
          let a = bit_one (alike_of c d) e in
          record {
            lesson = λ k. rw (i, j) (same_left p q c d i j (same_lesson c d events g h a answers (rw (i, j) at k)));
            same_taken = λ k l. rw (i, j) ((together_all c d events g h a).same_pattern (rw i at k) (rw j at l));
          }
      go (gives c) (refused n) i j e = absurd (omega arith)
      go (refused n) s i j e = absurd (omega arith)
