use Rattle.std.proofs.Common.{◌*◌, refl, ap}
use Rattle.jpg_color.proofs.Sampling.{begins, keeps_none}
use Rattle.jpg_color.proofs.encode.sampler.Sampler.begun.Goals as goal

pub invariant_of-result : goal.invariant_of-result
invariant_of-result c =
    let p = c.no_planes.ensures in
    record { keeps = keeps_none c.args.info c.args.encoding c.args.frame _ _ _ c.new.ensures c.requires.can c.requires.frame c.requires.none c.checked.ensures p.ys p.cbs p.crs (ap (λ n. c.args.info.height * n) c.row_length.ensures.value) }

pub returns-clause-sampled : goal.returns-clause-sampled
returns-clause-sampled c =
    let p = c.no_planes.ensures in
    record { numbers = refl; asked = refl; has = begins c.args.info c.args.encoding _ _ _ c.new.ensures p.ys p.cbs p.crs (ap (λ n. c.args.info.height * n) c.row_length.ensures.value) }
