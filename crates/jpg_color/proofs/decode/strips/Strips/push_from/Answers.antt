use Rattle.std.proofs.Common.{ℕ, ◌<◌}
use Rattle.jpg_color.specs.Shown.{parts}
use Rattle.jpg_color.proofs.Windows.{rows_there}
use Rattle.jpg_color.proofs.decode.strips.Strips.push_from.Goals as goal

pub take-requires-clause-blocks : goal.take-requires-clause-blocks
take-requires-clause-blocks c = record {
  rows = λ (i : ℕ) (h : i < parts c.args.self.now.display).
      rows_there c.args.self.now.display i c.args.self.now.pushed c.args.coefs.now c.checked.ensures h c.requires.due.missing c.requires.frame c.requires.range;
}
