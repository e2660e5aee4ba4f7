use Rattle.std.proofs.Common.{◌∙◌, sym}
use Rattle.jpg_markers.proofs.app.read_app.Goals as goal

pub returns-then-is_jfif : goal.returns-then-is_jfif
returns-then-is_jfif c = (sym c.is_jfif.ensures ∙ c.if-is_jfif.true, c.header_of.ensures c.args.code)
