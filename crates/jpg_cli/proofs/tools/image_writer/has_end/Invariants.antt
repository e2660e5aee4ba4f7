use Rattle.std.proofs.Common.{drop}
use Rattle.jpg_cli.proofs.ByRow.FoundEnds.{HasSameFormat}
use Rattle.jpg_cli.proofs.tools.image_writer.has_end.Given as goal

-- If one of all has the format, one of those that are left has.
abbrev pub invariant-loop-end : goal.invariant-loop-end
invariant-loop-end g l = HasSameFormat l.ends (drop l.end-index l.ends) (λ e. (goal.ImageEnd-dyn g (e.vtable, e.value)).progress e.value) l.kind
