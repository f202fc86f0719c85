use Rattle.copy.proofs.Parts.{word_room, sifting_again}
use Rattle.copy.proofs.sift.Goals as goal

pub sift_word-end-requires : goal.sift_word-end-requires
sift_word-end-requires c =
    let s = c.in-Some.ensures.steps in
    word_room _ _ _ _ _ _ _ _ c.loop-word.invariant _ _ _ _ s.0 s.1 c.requires

pub loop-word-preserved : goal.loop-word-preserved
loop-word-preserved c =
    let s = c.in-Some.ensures.steps in
    let e = c.sift_word-end.ensures in
    sifting_again _ _ _ _ _ _ _ _ c.loop-word.invariant _ _ _ _ s.0 s.1 c.requires e.0 e.1
