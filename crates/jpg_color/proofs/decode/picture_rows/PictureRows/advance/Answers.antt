use Rattle.jpg_color.proofs.Looking.{goes_looking, goes_on}
use Rattle.jpg_color.proofs.decode.picture_rows.PictureRows.advance.Goals as goal

pub loop-self-preserved : goal.loop-self-preserved
loop-self-preserved c = goes_looking c.self.inside.strips c.loop-self.self-inside.strips c.advance.new.self _ _ _ c.loop-self.invariant c.loop-self-test.ensures c.push_from.ensures

pub returns : goal.returns
returns c =
    rw (← c.self.view_is)
    (goes_on c.self.inside.strips c.loop-self.self-inside.strips c.advance.new.self c.self.inside.coefs.now c.loop-self.self-inside.coefs.now c.loop-self.invariant c.loop-self-test.ensures)
