use Rattle.std.proofs.Common.{Ok, sym, ap, ◌∙◌}
use Rattle.jpg_color.proofs.Refused.{told_admitted}
use Rattle.jpg_color.proofs.decode.kinds.admits.Goals as goal

pub returns-in-Some : goal.returns-in-Some
returns-in-Some c =
    told_admitted c.args.colour c.args.gray c.is_gray.result c.args.frame.now c.is_deep.result c.is_out.result c.needs_partial-partial.result _
    c.is_gray.ensures c.is_deep.ensures c.is_out.ensures c.needs_partial-partial.ensures (sym c.in-Some.is ∙ c.first_fault.ensures)

pub returns-in-None : goal.returns-in-None
returns-in-None c =
    ap Ok c.shown_kind.ensures
    ∙ told_admitted c.args.colour c.args.gray c.is_gray.result c.args.frame.now c.is_deep.result c.is_out.result c.needs_partial-partial.result _
    c.is_gray.ensures c.is_deep.ensures c.is_out.ensures c.needs_partial-partial.ensures (sym c.in-None.is ∙ c.first_fault.ensures)
