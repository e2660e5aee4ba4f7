use Rattle.std.proofs.Common.{subst, List, length, ◌≤◌}
use Rattle.std.specs.List.{Contains}
use Rattle.jpg_huff.proofs.LookedUp.{short_code}
use Rattle.jpg_spec.specs.Codes.{Code}
use Rattle.jpg_huff.specs.Laws.{AreApart}
use Rattle.jpg_huff.proofs.Tables.{apart}
use Rattle.jpg_huff.proofs.look.Decoder.apart.Goals as goal

pub returns-clause-one : goal.returns-clause-one
returns-clause-one c = subst (λ (codes : List Code). AreApart codes) c.self.view_is (apart c.self.inside.table)

pub returns-clause-some : goal.returns-clause-some
returns-clause-some c = subst (λ (codes : List Code). (code : Code) → Contains codes code → 1 ≤ length code.0) c.self.view_is (short_code c.self.inside.table)
