use Rattle.std.proofs.Common.{length, sym, ap, ◌∙◌}
use Rattle.jpg_spec.proofs.Basics.Strings.{length-bits_of}
use Rattle.jpg_base.specs.Store.{low_of}
use Rattle.jpg_base.proofs.store.BitStore.len.Goals as goal

pub returns-clause-value : goal.returns-clause-value
returns-clause-value c = sym (length-bits_of c.self.inside.count (low_of c.self.inside.count c.self.inside.word)) ∙ ap length c.self.view_is
