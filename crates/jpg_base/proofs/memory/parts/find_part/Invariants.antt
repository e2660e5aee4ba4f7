use Rattle.std.proofs.Common.{◌≡◌, map, drop}
use Rattle.jpg_base.specs.Memory.{chosen, part_of}
use Rattle.jpg_base.proofs.memory.parts.find_part.Given as goal

-- the part among the failures that are left is the one among all
abbrev pub invariant-loop-failure : goal.invariant-loop-failure
invariant-loop-failure l = part_of (map chosen (drop l.failure-index l.failing)) l.call ≡ part_of (map chosen l.failing) l.call
