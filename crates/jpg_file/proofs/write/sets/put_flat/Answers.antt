use Rattle.std.proofs.Common.{◌∙◌, ap, lit<}
use Rattle.jpg_spec.specs.FlatTable.{flat_table}
use Rattle.jpg_file.proofs.write.sets.put_flat.Goals as goal

pub returns : goal.returns
returns c symbols used =
    c.put_four.ensures (λ class slot. flat_table (symbols class slot))
    (c.flat.ensures ∙ ap flat_table (used.dc 0 (lit< tt))) (c.flat-2.ensures ∙ ap flat_table (used.dc 1 (lit< tt)))
    (c.flat-3.ensures ∙ ap flat_table (used.ac 0 (lit< tt))) (c.flat-4.ensures ∙ ap flat_table (used.ac 1 (lit< tt)))
