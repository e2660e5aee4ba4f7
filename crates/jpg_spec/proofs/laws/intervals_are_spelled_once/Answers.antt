use Rattle.std.proofs.Common.{sym, ◌∙◌}
use Rattle.jpg_spec.proofs.Bits.Sound.{spelled_once}
use Rattle.jpg_spec.proofs.laws.intervals_are_spelled_once.Goals as goal

pub returns : goal.returns
returns c = λ coding units bits a b s. spelled_once coding units a.told b.told a.front b.front a.rest b.rest s a.spelled b.spelled (sym a.cut ∙ b.cut)
