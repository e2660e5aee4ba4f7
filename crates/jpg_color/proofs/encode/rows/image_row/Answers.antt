use Rattle.std.proofs.Common.{◌∙◌}
use Rattle.jpg_color.proofs.PlaneRows.{row_there, row_found}
use Rattle.jpg_color.proofs.encode.rows.image_row.Goals as goal

pub part-requires : goal.part-requires
part-requires c = row_there c.args.info.now c.args.samples.now c.place-row.result c.numbers.result c.requires c.numbers.ensures.value c.place-row.ensures.there

pub returns : goal.returns
returns c = c.part.ensures ∙ row_found c.args.info.now c.args.samples.now c.place-row.result c.args.p c.numbers.result c.numbers.ensures.value c.place-row.ensures.value
