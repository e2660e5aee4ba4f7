use Rattle.std.proofs.Common.{length, sym, ap, ◌∙◌}
use Rattle.jpg_spec.proofs.Basics.Common.{same_of}
use Rattle.jpg_targa.proofs.MadeRows.{as_they_are}
use Rattle.jpg_targa.proofs.read.make.are_samples.Goals as goal

pub returns-then-is_from_top-clause-samples : goal.returns-then-is_from_top-clause-samples
returns-then-is_from_top-clause-samples c = λ e.
    as_they_are c.args.work.now.head c.args.work.now.pixels (sym c.kind.ensures ∙ c.in-Gray.is) (sym c.is_from_top.ensures ∙ c.if-is_from_top.true)
    (sym (ap length c.as_slice.ensures) ∙ same_of (length c.as_slice.result.now) c.total.result e ∙ c.total.ensures)
