use Rattle.std.proofs.Common.{◌∙◌}
use Rattle.jpg_desk.proofs.moved_rows.boxed_reader.Goals as goal

pub returns-in-Ok-clause-some : goal.returns-in-Ok-clause-some
returns-in-Ok-clause-some c =
    let e = c.strips_keeping-reader.ensures in
    (c.strips_keeping-reader.result, record { read = e.read; limits = e.limits ∙ c.standard.ensures; keeps = e.keeping; in_rows = e.in_rows })

pub returns-clause-some : goal.returns-clause-some
returns-clause-some c =
    let e = c.strips_keeping-reader.ensures in
    (c.strips_keeping-reader.result, record { read = e.read; limits = e.limits ∙ c.standard.ensures; keeps = e.keeping; in_rows = e.in_rows })
