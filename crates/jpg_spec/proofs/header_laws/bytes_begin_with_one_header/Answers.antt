use Rattle.std.proofs.Common.{sym, ◌∙◌}
use Rattle.jpg_spec.proofs.Headers.OneHeader.{whole_once}
use Rattle.jpg_spec.proofs.header_laws.bytes_begin_with_one_header.Goals as goal

pub returns : goal.returns
returns c = λ limits bytes a b. whole_once limits a.front b.front a.rest b.rest a.before b.before a.contents b.contents a.header b.header (sym a.cut ∙ b.cut)
