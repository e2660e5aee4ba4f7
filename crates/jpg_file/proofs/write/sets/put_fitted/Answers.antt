use Rattle.std.proofs.Common.{◌∙◌, ap, lit<}
use Rattle.jpg_spec_fit.specs.Fitted.{fitted}
use Rattle.jpg_file.proofs.write.sets.put_fitted.Goals as goal

pub returns : goal.returns
returns c numbers has =
    c.put_four.ensures (λ class slot. fitted (numbers class slot))
    (c.fitted.ensures ∙ ap fitted (has.dc 0 (lit< tt))) (c.fitted-2.ensures ∙ ap fitted (has.dc 1 (lit< tt)))
    (c.fitted-3.ensures ∙ ap fitted (has.ac 0 (lit< tt))) (c.fitted-4.ensures ∙ ap fitted (has.ac 1 (lit< tt)))
