use Rattle.std.proofs.Common.{◌≡◌, ◌+◌, ◌++◌, take, drop, set, get_or, sym, ap, ◌∙◌, arith, rules}
use Rattle.std.proofs.Math.ListN.{length-set}
use Rattle.car.specs.declared.Car.{Car}
use Rattle.car.specs.Drive.{step_of}
use Rattle.car.specs.Lesson.{answer_of, speed_of, refuses}
use Rattle.car.specs.LessonShape.{over_of}
use Rattle.car.specs.Mark.{searched}
use Rattle.car.proofs.Driving.{step_keeps, input_kept, tick_kept, took_due, took_undue}
use Rattle.car.proofs.DriveLaws.{input_taken, input_unread}
use Rattle.car.proofs.MarkLaws.{uncounted, input_no_tick}
use Rattle.car.proofs.Going.{Turned, Shown, shown_anew, shown_still, turned_refused, turned_taken, stale_now, unchanged, tick_uncounted, took_counted, written, passed_by, next_left, again, stops, answered, more, no_more, ends}
use Rattle.car.proofs.checked.GoodCar.teach.Goals as goal
use Rattle.car.proofs.checked.GoodCar.teach.Goals.{Joined-is_tick, Joined-stale, Joined-refusal-ne0, Joined-i-speeds, then-is_tick+in-Ok+then-due, then-is_tick+in-Ok+else-due, then-is_tick+in-Err, else-is_tick+in-Ok-read_input+in-Ok-check, else-is_tick+in-Ok-read_input+in-Err-check, else-is_tick+in-Err-read_input, then-stale, else-stale, then-refusal-ne0, else-refusal-ne0, then-i-speeds, else-i-speeds}

-- what the word of a turn makes of the car, by the way that control came: a tick with a test, without one, refused; an input
turned : (c : Joined-is_tick) → Turned c.args.mark c.loop-i.car (get_or c.args.words.now c.loop-i.i 0) c.loop-i.seconds c.if-is_tick.car c.if-is_tick.seconds c.if-is_tick.refusal c.if-is_tick.stale
turned c =
    let is = c.is_tick.ensures in
    elim c.if-is_tick.branch [
      | then-is_tick+in-Ok+then-due w ↦ turned_taken _ _ _ _ _ _ _ _ _
          (took_due _ _ (sym is ∙ w.if-is_tick.true) _ w.test_due-due.ensures w.in-Ok.ensures _ w.moved-moved.ensures _ w.tick-car.ensures w.if-due.true _ w.tick_ready.ensures _ w.test_radar-car.ensures)
          w.car-is w.refusal-is (stale_now _ w.stale-is)
          (took_counted _ _ (sym is ∙ w.if-is_tick.true) _ w.test_due-due.ensures w.in-Ok.ensures _ w.moved-moved.ensures _ _ w.counts-seconds.ensures w.seconds-is)
      | then-is_tick+in-Ok+else-due w ↦ turned_taken _ _ _ _ _ _ _ _ _
          (took_undue _ _ (sym is ∙ w.if-is_tick.true) _ w.test_due-due.ensures w.in-Ok.ensures _ w.moved-moved.ensures _ w.tick-car.ensures w.if-due.false)
          w.car-is w.refusal-is (unchanged _ _ _ _ _ (w.car-is ∙ w.tick-car.ensures) (w.stale-is ∙ w.differs-stale.ensures))
          (took_counted _ _ (sym is ∙ w.if-is_tick.true) _ w.test_due-due.ensures w.in-Ok.ensures _ w.moved-moved.ensures _ _ w.counts-seconds.ensures w.seconds-is)
      | then-is_tick+in-Err w ↦ turned_refused _ _ _ _ _ _ _ _ _
          (tick_kept _ _ (sym is ∙ w.if-is_tick.true) _ w.test_due-due.ensures _ w.in-Err.ensures) w.car-is (w.refusal-is ∙ w.from-refusal.ensures)
          (uncounted _ _ _ _ (tick_uncounted _ _ (sym is ∙ w.if-is_tick.true) _ w.test_due-due.ensures _ w.in-Err.ensures) w.seconds-is)
      | else-is_tick+in-Ok-read_input+in-Ok-check w ↦ turned_taken _ _ _ _ _ _ _ _ _
          (input_taken _ _ (sym is ∙ w.if-is_tick.false) _ (sym w.in-Ok-read_input.ensures) (sym w.in-Ok-check.ensures))
          (w.car-is ∙ w.next-car.ensures) w.refusal-is (stale_now _ w.stale-is) (uncounted _ _ _ _ (input_no_tick _ _ (sym is ∙ w.if-is_tick.false)) w.seconds-is)
      | else-is_tick+in-Ok-read_input+in-Err-check w ↦ turned_refused _ _ _ _ _ _ _ _ _
          (input_kept _ _ (sym is ∙ w.if-is_tick.false) _ (sym w.in-Ok-read_input.ensures) _ w.in-Err-check.ensures)
          w.car-is (w.refusal-is ∙ w.from-refusal-in-Err-check.ensures) (uncounted _ _ _ _ (input_no_tick _ _ (sym is ∙ w.if-is_tick.false)) w.seconds-is)
      | else-is_tick+in-Err-read_input w ↦ turned_refused _ _ _ _ _ _ _ _ _
          (input_unread _ _ (sym is ∙ w.if-is_tick.false) _ (sym w.in-Err-read_input.ensures))
          w.car-is (w.refusal-is ∙ w.from-refusal-in-Err-read_input.ensures) (uncounted _ _ _ _ (input_no_tick _ _ (sym is ∙ w.if-is_tick.false)) w.seconds-is)
    ]

-- the figures after it, worked out again or kept, and whether it passed the mark
shown : (c : Joined-stale) → Shown c.args.words.now c.args.answers.now c.args.speeds.now c.args.halt c.args.mark c.args.self.car c.loop-i.answers c.loop-i.speeds c.loop-i.car c.loop-i.refused c.loop-i.seconds
    c.loop-i.below c.loop-i.i c.loop-i.code c.loop-i.answer c.loop-i-test.true c.loop-i.invariant c.if-is_tick.car c.if-stale.passed c.if-stale.below c.if-stale.code c.if-stale.answer
shown c =
    let h = c.loop-i-test.true in
    let g = c.loop-i.invariant in
    let t = turned (goal.at.Joined-stale c).Joined-is_tick in
    elim c.if-stale.branch [
      | then-stale w ↦ shown_anew _ _ _ _ _ _ _ _ _ _ _ _ _ _ _ h g _ _ _ _ t (w.code-is ∙ w.acceleration_code-code-then-stale.ensures) (w.answer-is ∙ w.answer-answer-then-stale.ensures) w.passed-is w.below-is
      | else-stale w ↦ shown_still _ _ _ _ _ _ _ _ _ _ _ _ _ _ _ h g _ _ _ _ t w.if-stale.false w.code-is w.answer-is w.passed-is w.below-is
    ]

-- the refused words
refused_so_far : (c : Joined-refusal-ne0) → c.if-refusal-ne0.refused ≡ c.loop-i.refused + refuses (step_of c.loop-i.car (get_or c.args.words.now c.loop-i.i 0))
refused_so_far c =
    let t = turned (goal.at.Joined-refusal-ne0 c).Joined-is_tick in
    elim c.if-refusal-ne0.branch [
      | then-refusal-ne0 w ↦ w.refused-is ∙ more _ _ _ _ _ _ _ _ _ _ _ _ _ _ _ c.loop-i-test.true c.loop-i.invariant _ _ _ _ t w.if-refusal-ne0.true
      | else-refusal-ne0 w ↦ w.refused-is ∙ no_more _ _ _ _ _ _ _ _ _ _ _ _ _ _ _ c.loop-i-test.true c.loop-i.invariant _ _ _ _ t w.if-refusal-ne0.false
    ]

pub invariant_of-good-then-stale : goal.invariant_of-good-then-stale
invariant_of-good-then-stale c = record { good = rw (turned (goal.at.invariant_of-good-then-stale c).Joined-is_tick).is_car (step_keeps _ _ c.loop-i.invariant.ok) }

-- the buffers
answers_so_far : (c : Joined-i-speeds) → take (c.loop-i.i + 1) (set c.loop-i.answers c.loop-i.i c.refusing.result)
    ++ over_of answer_of (step_of c.loop-i.car (get_or c.args.words.now c.loop-i.i 0)).car (drop (c.loop-i.i + 1) (searched c.args.halt c.args.self.car c.args.words.now)) (drop (c.loop-i.i + 1) (set c.loop-i.answers c.loop-i.i c.refusing.result))
    ≡ over_of answer_of c.args.self.car (searched c.args.halt c.args.self.car c.args.words.now) c.args.answers.now
answers_so_far c =
    let h = c.loop-i-test.true in
    let g = c.loop-i.invariant in
    let at = goal.at.Joined-i-speeds c in
    let n = next_left _ _ _ _ _ _ _ _ _ _ _ _ _ _ _ h g in
    let x = answered _ _ _ _ _ _ _ _ _ _ _ _ _ _ _ h g _ _ _ _ _ _ (turned at.Joined-is_tick) (shown at.Joined-stale).is_answer c.refusing.ensures in
    written answer_of c.loop-i.answers _ _ _ c.loop-i.i _ (rw n at g.ans) _ (omega (arith, g.room, g.same, h)) x

speeds_so_far : (c : Joined-i-speeds) → take (c.loop-i.i + 1) c.if-i-speeds.speeds
    ++ over_of speed_of (step_of c.loop-i.car (get_or c.args.words.now c.loop-i.i 0)).car (drop (c.loop-i.i + 1) (searched c.args.halt c.args.self.car c.args.words.now)) (drop (c.loop-i.i + 1) c.if-i-speeds.speeds)
    ≡ over_of speed_of c.args.self.car (searched c.args.halt c.args.self.car c.args.words.now) c.args.speeds.now
speeds_so_far c =
    let g = c.loop-i.invariant in
    let n = next_left _ _ _ _ _ _ _ _ _ _ _ _ _ _ _ c.loop-i-test.true g in
    let t = turned (goal.at.Joined-i-speeds c).Joined-is_tick in
    elim c.if-i-speeds.branch [
      | then-i-speeds w ↦ rw w.speeds-is (written speed_of _ _ _ _ _ _ (rw n at g.spd) _ w.if-i-speeds.true (ap (λ (x : Car). x.speed) t.is_car))
      | else-i-speeds w ↦ rw w.speeds-is (passed_by speed_of _ _ _ _ _ _ (rw n at g.spd) w.if-i-speeds.false)
    ]

pub returns-then-passed : goal.returns-then-passed
returns-then-passed c =
    let at = goal.at.returns-then-passed c in
    stops _ _ _ _ _ _ _ _ _ _ _ _ _ _ _ c.loop-i-test.true c.loop-i.invariant _ _ _ _ _ _ _ _ _ (turned at.Joined-is_tick) (refused_so_far at.Joined-refusal-ne0) (shown at.Joined-stale)
    c.if-passed.true _ _ (answers_so_far at.Joined-i-speeds) (speeds_so_far at.Joined-i-speeds)

pub loop-i-preserved : goal.loop-i-preserved
loop-i-preserved c =
    let at = goal.at.loop-i-preserved c in
    again _ _ _ _ _ _ _ _ _ _ _ _ _ _ _ c.loop-i-test.true c.loop-i.invariant _ _ _ _ _ _ _ _ _ (turned at.Joined-is_tick) (refused_so_far at.Joined-refusal-ne0) (shown at.Joined-stale)
    _ _ c.if-passed.false (simp length-set) c.if-i-speeds.auto.speeds (answers_so_far at.Joined-i-speeds) (speeds_so_far at.Joined-i-speeds)

pub returns : goal.returns
returns c = ends _ _ _ _ _ _ _ _ _ _ _ _ _ _ _ (search rules) c.loop-i.invariant
