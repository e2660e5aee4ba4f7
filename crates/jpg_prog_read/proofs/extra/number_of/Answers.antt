use Rattle.std.proofs.Common.{rules, ◌∙◌, ap}
use mir.Syntax.{w16}
use Rattle.std.proofs.lemmas.Int.{to_z-of_z}
use Rattle.jpg_spec.specs.Numbers.{category, extra_bits}
use Rattle.jpg_prog_read.proofs.Extended.{extended}
use Rattle.jpg_prog_read.proofs.extra.number_of.Goals as goal

pub returns-clause-category : goal.returns-clause-category
returns-clause-category c =
    ap category (to_z-of_z w16 c.lowered.result (search rules) ∙ c.lowered.ensures) ∙ (extended c.args.size c.args.extra c.excess.result c.requires.fits c.excess.ensures.high c.excess.ensures.low).0

pub returns-clause-extra : goal.returns-clause-extra
returns-clause-extra c =
    ap extra_bits (to_z-of_z w16 c.lowered.result (search rules) ∙ c.lowered.ensures) ∙ (extended c.args.size c.args.extra c.excess.result c.requires.fits c.excess.ensures.high c.excess.ensures.low).1
