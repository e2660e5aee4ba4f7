use Rattle.std.proofs.Common.{sym, ◌∙◌}
use Rattle.jpg_spec.proofs.Bits.Sound.{one_table}
use Rattle.jpg_spec.proofs.laws.no_code_begins_another.Goals as goal

pub returns : goal.returns
returns c = λ counts symbols bits a b are. one_table counts symbols are a.code b.code a.rest b.rest a.among b.among (sym a.cut ∙ b.cut)
