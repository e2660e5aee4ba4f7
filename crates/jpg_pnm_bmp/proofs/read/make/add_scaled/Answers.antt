use Rattle.std.proofs.Common.{rules, [], ◌∷◌, ◌++◌, ap, ◌∙◌, append_assoc}
use Rattle.jpg_pnm_bmp.proofs.MadeSamples.{scaled_more}
use Rattle.jpg_pnm_bmp.proofs.read.make.add_scaled.Goals as goal

pub loop-sample-preserved : goal.loop-sample-preserved
loop-sample-preserved c =
    let i = c.loop-sample.invariant in
    let one = c.scaled.result in
    record {
      scaled = scaled_more c.args.most c.args.samples.now c.args.made.now c.loop-sample.made c.push_all.new.self c.loop-sample.sample-index one (search rules) i.scaled c.scaled.ensures c.in-Ok.ensures.whole;
      more = (i.more.0 ++ one ∷ [], c.in-Ok.ensures.whole ∙ ap (λ l. l ++ one ∷ []) i.more.1 ∙ append_assoc c.args.made.now i.more.0 (one ∷ []));
    }
