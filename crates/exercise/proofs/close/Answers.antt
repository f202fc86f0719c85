use Rattle.std.proofs.Common.{◌≡◌, refl, ap, ◌∙◌, eq-eqb, ne_eqb}
use Rattle.kit.specs.Pick.{pick_true, pick_false}
use Rattle.event.specs.Refusal.{refusal_number}
use Rattle.listing.specs.Listing.{refused_text}
use Rattle.exercise.specs.declared.Stage.{Stage}
use Rattle.exercise.specs.Pieces.{close_text, cut_text}
use Rattle.exercise.proofs.Turning.{close_short, close_none, close_refused}
use Rattle.exercise.proofs.close.Goals as goal
use Rattle.exercise.proofs.close.Goals.{in-Awaited, in-Driving-2}

pub returns-then-out-lt-ROOM : goal.returns-then-out-lt-ROOM
returns-then-out-lt-ROOM c = close_short _ _ _ c.if-out-lt-ROOM.true

pub returns-in-Driving : goal.returns-in-Driving
unfolding close_text cut_text
returns-in-Driving c =
    let s = c.args in
    close_none _ _ s.held (ap (λ (x : Stage). close_text x s.held) c.in-Driving.is ∙ pick_true _ _ _ (eq-eqb _ _ c.if-held-eq0.true))

pub returns-in-Ended : goal.returns-in-Ended
unfolding close_text
returns-in-Ended c = let s = c.args in close_none _ _ s.held (ap (λ (x : Stage). close_text x s.held) c.in-Ended.is)

pub returns : goal.returns
unfolding close_text cut_text
returns c =
    let s = c.args in
    let e : close_text s.stage s.held ≡ refused_text (refusal_number c.match-stage.refusal)
    = elim c.match-stage.branch [
      | in-Awaited w ↦ rw (w.in-Awaited.is, w.refusal-is) refl
      | in-Driving-2 w ↦ rw (w.in-Driving.is, w.refusal-is) (pick_false _ _ _ (ne_eqb _ _ w.if-held-eq0.false))
    ] in
    close_refused _ _ s.held _ c.if-out-lt-ROOM.false e (rw c.from.ensures at c.put_refused.ensures)
