use Rattle.std.proofs.Common.{◌∙◌, arith}
use Rattle.jpg_sample.proofs.Sums.{one_of_eight}
use Rattle.jpg_sample.proofs.narrow.put_eight.Goals as goal

pub returns-clause-here : goal.returns-clause-here
returns-clause-here c = λ k few.
    c.put_samples.ensures.here k few
    ∙ one_of_eight c.args.rows.now c.part-upper.result.now c.part-lower.result.now c.eight_quarters.result c.args.width c.args.c k few
    (omega (arith, c.requires.there, c.requires.room)) c.part-upper.ensures.value c.part-lower.ensures.value c.eight_quarters.ensures
