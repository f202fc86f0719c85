use Rattle.std.proofs.Common.{length, ◌≡◌, ◌-◌}
use Rattle.lever.specs.FewestShape.{seek_of, try_from}
use Rattle.lever.proofs.+seek.Given as goal

abbrev pub decreases-seek : goal.decreases-seek
decreases-seek l = length l.words.now

-- the lists that begin with a position from here on give the whole; no list has been put into what is behind the first word
abbrev pub invariant-loop-next : goal.invariant-loop-next
invariant-loop-next l =
    (try_from l.goal.ceiling (seek_of l.goal (length l.rest)) (5 - l.next) l.position l.desired ≡ seek_of l.goal (length l.fn.words) l.position l.desired)
    × (l.rest ≡ l.initial.rest)
    × (l.first ≡ l.initial.first)
