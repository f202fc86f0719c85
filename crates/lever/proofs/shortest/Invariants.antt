use Rattle.std.proofs.Common.{◌≡◌, ◌-◌}
use Rattle.lever.specs.FewestShape.{shortest_of}
use Rattle.lever.proofs.shortest.Given as goal

-- the lengths from here on give the whole
abbrev pub invariant-loop-count : goal.invariant-loop-count
invariant-loop-count l = shortest_of l.goal l.desired (7 - l.count) l.count ≡ shortest_of l.goal l.desired 7 0
