use Rattle.std.proofs.Common.{refl, arith}
use Rattle.event.proofs.RefusalLaws.{number_range}
use Rattle.exercise.proofs.Turning.{undone, numbers_pass, not_good, bad_by, drove}
use Rattle.exercise.proofs.drive_words.Goals as goal

pub returns-in_default : goal.returns-in_default
returns-in_default c = undone _ _ (numbers_pass _ _ (omega (arith, c.in_default.ensures))) c.nothing_done.ensures

pub returns-in_default-trace : goal.returns-in_default-trace
returns-in_default-trace c =
    let s = c.args in
    let bad = bad_by s.place s.words.now s.out.now _ _ c.requires.0 refl refl _ c.in_default-trace.ensures.0 _ refl (number_range c.in_default-trace.field-0).0 in
    undone _ _ (not_good _ _ bad) c.nothing_done-in_default-trace.ensures

pub returns : goal.returns
returns c =
    let s = c.args in
    let t = c.in-Ok.ensures in
    let l = c.put_lines.ensures in
    drove s.place s.words.now s.out.now _ _ c.requires.0 refl refl (omega (arith, c.in-Some.ensures.0)) c.in-Some.ensures.1 c.requires.1 t.0 t.1 t.2 l.0 l.1
