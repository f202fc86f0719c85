use Rattle.std.proofs.Common.{refl, ◌≤◌, ◌+◌, length, drop, arith, length-drop, drop_of_length-le}
use Rattle.std.specs.List.{slice_index}
use Rattle.std.proofs.lemmas.List.{at_drop_more}
use Rattle.listing.specs.Listing.{word_line}
use Rattle.listing.proofs.Going.{again, ends}
use Rattle.listing.proofs.PutLaws.{was_put}
use Rattle.moving.specs.Moving.{word_lines}
use Rattle.moving.proofs.Writing.{line_nine, lines_length}
use Rattle.moving.proofs.put_words.Goals as goal

pub loop-word-preserved : goal.loop-word-preserved
unfolding word_lines
loop-word-preserved c =
    let ws = c.args.words.now in
    let k = c.loop-word.word-index in
    let going = c.loop-word.invariant in
    let w = slice_index ws k in
    let next = at_drop_more word_lines ws k 0 c.loop-word-test.true in
    let room : c.loop-word.end + 9 ≤ length c.loop-word.out =
    omega (arith, going.same, going.index, lines_length ws, lines_length (drop k ws), length-drop k ws, c.requires, c.loop-word-test.true) in
    again _ (word_lines (drop (k + 1) ws)) going next (omega (arith, room, line_nine w)) (was_put _ _ 9 (word_line w) room (omega (arith, line_nine w)) c.put_word_line-end.ensures)

pub returns : goal.returns
unfolding word_lines
returns c =
    let ws = c.args.words.now in
    let e = ends c.loop-word.invariant (rw (drop_of_length-le ws c.loop-word-test.false) refl) in
    record { index = e.0; slice = e.1; short = omega (arith, lines_length ws) }
