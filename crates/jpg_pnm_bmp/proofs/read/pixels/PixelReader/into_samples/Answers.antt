use Rattle.std.proofs.Common.{[], sym, ◌∙◌}
use Rattle.std.proofs.Math.Logic.{∥∥₁_map}
use Rattle.jpg_pnm_bmp.proofs.PnmGiven.{none_given_yet}
use Rattle.jpg_pnm_bmp.proofs.read.pixels.PixelReader.into_samples.Goals as goal

pub new-requires : goal.new-requires
new-requires c =
    let r = c.args.self in
    let g = c.requires.1 in
    ∥∥₁_map (r.going g.stop g.done) (λ b. (b.0, [], none_given_yet b.0 c.requires.0 r.reader.work g.begun b.1))

pub returns-clause-fed : goal.returns-clause-fed
returns-clause-fed c = λ bytes h. c.new.ensures.fed bytes [] (none_given_yet bytes c.requires.0 c.args.self.reader.work c.requires.1.begun h.3.stands) h.3.taken_is

pub returns-clause-info : goal.returns-clause-info
returns-clause-info c = λ info g. c.new.ensures.info ∙ sym g.begun.info_is
