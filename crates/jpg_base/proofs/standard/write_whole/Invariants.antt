use Rattle.std.proofs.Common.{length, ◌-◌, ◌≡◌, take, drop}
use Rattle.std.specs.Io.KnownBytes.{Appends}
use Rattle.jpg_base.proofs.standard.write_whole.Given as goal

abbrev pub decreases-loop-rest : goal.decreases-loop-rest
decreases-loop-rest g l = length l.rest

-- what is written is the piece without the rest
abbrev pub invariant-loop-rest : goal.invariant-loop-rest
invariant-loop-rest g l = (l.rest ≡ drop (length l.piece - length l.rest) l.piece) × Appends (g.W.Write.contents l.fn.writer) (g.W.Write.contents l.writer) (take (length l.piece - length l.rest) l.piece)
