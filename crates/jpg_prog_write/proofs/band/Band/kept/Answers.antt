use Rattle.std.proofs.Common.{◌∙◌, ap, rules, arith}
use mir.Syntax.{w16}
use Rattle.std.proofs.lemmas.Int.{to_z-of_z}
use Rattle.jpg_prog_write.specs.Bands.{kept_of}
use Rattle.jpg_prog_write.proofs.KeptValues.{all_kept, band_kept, kept_step, short_kept}
use Rattle.jpg_prog_write.proofs.band.Band.kept.Goals as goal

pub loop-k-preserved : goal.loop-k-preserved
loop-k-preserved c =
    c.set.ensures.value
    ∙ kept_step c.args.self.al c.args.block.now c.loop-k.kept c.loop-k.k _ c.long.ensures c.loop-k-test.true c.loop-k.invariant
    (to_z-of_z w16 c.kept_value.result (search rules) ∙ c.kept_value.ensures ∙ ap (kept_of c.args.self.al) (to_z-of_z w16 c.get.result (search rules) ∙ c.get.ensures.value))

pub returns-clause-short : goal.returns-clause-short
returns-clause-short c = short_kept c.args.self.al c.args.block.now c.loop-k.kept (all_kept c.args.self.al c.args.block.now c.loop-k.kept c.loop-k.k c.long.ensures (omega arith) c.loop-k.invariant)

pub returns-clause-sent : goal.returns-clause-sent
returns-clause-sent c = band_kept c.args.self c.args.block.now c.loop-k.kept (all_kept c.args.self.al c.args.block.now c.loop-k.kept c.loop-k.k c.long.ensures (omega arith) c.loop-k.invariant)
