use Rattle.std.specs.Prelude.{drop}
use Rattle.jpg_scans.proofs.Histories.{IsLongerBy}
use Rattle.jpg_scans.proofs.progress.Progress.note.Given as goal

-- with the parts that are left it is as long as the history is in the end
abbrev pub invariant-loop-part : goal.invariant-loop-part
invariant-loop-part l = IsLongerBy l.fn.self l.head (drop l.part-index l.head.parts) l.self
