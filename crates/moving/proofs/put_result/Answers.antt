use Rattle.std.proofs.Common.{arith, length-take}
use Rattle.listing.proofs.PutLaws.{put_as}
use Rattle.moving.proofs.Writing.{few, list_text, refusal_sentence}
use Rattle.moving.proofs.put_result.Goals as goal

pub shared_ref_as_front-put_words : goal.shared_ref_as_front-put_words
shared_ref_as_front-put_words c = few c.args.wanted c.args.car c.args.held c.in-Ok.moves c.in-Ok.ensures

pub returns-in-Ok : goal.returns-in-Ok
returns-in-Ok c =
    let s = c.args in
    let m = c.in-Ok.moves in
    put_as c.put_words.ensures (list_text s.wanted s.car s.held m c.in-Ok.ensures)
    (omega (arith, few s.wanted s.car s.held m c.in-Ok.ensures, length-take m.count m.words))

pub returns-in-Err : goal.returns-in-Err
returns-in-Err c =
    let s = c.args in
    put_as (rw c.from.ensures at c.put_sentence.ensures) (refusal_sentence s.wanted s.car s.held c.in-Err.refusal c.in-Err.ensures) (omega arith)
