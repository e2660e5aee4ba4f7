use Rattle.std.proofs.Common.{arith}
use Rattle.std.proofs.lemmas.Grind.{common_steps}
use Rattle.jpg_spec_image.specs.ImageText.{turned_round}
use Rattle.jpg_pnm_bmp.proofs.TurnedRound.{turned_more, turned_all}
use Rattle.jpg_pnm_bmp.proofs.write.file_row.turn_round.Goals as goal

pub loop-line-preserved : goal.loop-line-preserved
loop-line-preserved c =
    let i = c.loop-line.invariant in
    record {
      inside = grind (arith, common_steps);
      long = grind (arith, common_steps);
      turned = turned_more c.loop-line.line (turned_round c.args.row.now) c.loop-line.at c.loop-line-test.true i.inside i.turned;
    }

pub returns-clause-turned : goal.returns-clause-turned
returns-clause-turned c =
    let i = c.loop-line.invariant in
    turned_all c.loop-line.line (turned_round c.args.row.now) c.loop-line.at (omega arith) i.turned
