use Rattle.std.proofs.Common.{sym, ap, ◌∙◌, arith}
use Rattle.settings.specs.SettingsWord.{start_of}
use Rattle.exercise.specs.Pieces.{started_turn}
use Rattle.exercise.proofs.Turning.{text_put, undone, few_bytes, started, rest_whole, answered}
use Rattle.exercise.proofs.open.Goals as goal

pub returns-in_default : goal.returns-in_default
returns-in_default c = undone _ _ (few_bytes _ (omega (arith, c.in_default.ensures.lookup))) c.nothing_done.ensures

pub returns-in-Ok : goal.returns-in-Ok
unfolding started_turn
returns-in-Ok c =
    let bs = c.args.bytes.now in
    rw (started bs _ c.in-Some.ensures.lookup.0.0 (ap start_of (sym c.word_at.ensures) ∙ sym c.in-Ok.ensures)) (rw (c.in-Some.ensures.lookup.0.2 ∙ rest_whole bs) at c.begin.ensures)

pub returns-in-Err : goal.returns-in-Err
unfolding started_turn
returns-in-Err c =
    let bs = c.args.bytes.now in
    let e = rw c.from.ensures at (text_put _ 29 _ (omega (arith, c.requires)) c.put_refused.ensures) in
    rw (started bs _ c.in-Some.ensures.lookup.0.0 (ap start_of (sym c.word_at.ensures) ∙ sym c.in-Err.ensures)) (answered _ _ _ e.0, e.1)
