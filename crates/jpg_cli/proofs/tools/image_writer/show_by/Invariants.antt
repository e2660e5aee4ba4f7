use Rattle.std.proofs.Common.{◌≡◌, map}
use Rattle.jpg_cli.specs.Tools.Ends.{AreNewEnds}
use Rattle.jpg_cli.proofs.ByRow.FoundEnds.{HasSameFormat}
use Rattle.jpg_cli.proofs.tools.image_writer.show_by.Given as goal

-- The writers that are left are new, and if one of all has the format, one of them has. Nothing was done to the desk.
abbrev pub invariant-loop-end : goal.invariant-loop-end
invariant-loop-end g l =
    let state = g.D.Desk.state in
    record {
      next : (goal.iterator-loop-end g).can_next l.end-iterator;
      finite : (goal.iterator-loop-end g).is_finite l.end-iterator;
      new : AreNewEnds (map (λ e. (goal.ImageEnd-dyn g (e.vtable, e.value)).progress e.value) l.end-iterator.rest.items);
      same : HasSameFormat l.fn.ends.items l.end-iterator.rest.items (λ e. (goal.ImageEnd-dyn g (e.vtable, e.value)).progress e.value) l.words.kind;
      desk : state l.desk ≡ state l.initial.desk;
    }
