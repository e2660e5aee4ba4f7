use Rattle.std.proofs.Common.{◌≡◌, take, drop, map, ◌++◌}
use Rattle.jpg_prog_write.specs.Bands.{kept_of}
use Rattle.jpg_prog_write.proofs.band.Band.kept.Given as goal

abbrev pub invariant-loop-k : goal.invariant-loop-k
invariant-loop-k l = l.kept ≡ take l.k (map (kept_of l.self.al) l.block) ++ drop l.k l.block
