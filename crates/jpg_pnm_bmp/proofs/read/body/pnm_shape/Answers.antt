use Rattle.std.proofs.Common.{◌∷◌, [], sym, ◌∙◌}
use Rattle.jpg_pnm_bmp.proofs.read.body.pnm_shape.Goals as goal

pub returns-in-All : goal.returns-in-All
returns-in-All c = λ w h n e.
    (let all = sym c.in-All.is ∙ e in
    cc (c.sample_count-count.ensures.count (c.in-All.most ∷ []), c.limit_of.ensures))
