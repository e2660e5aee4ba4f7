use Rattle.std.proofs.Common.{◌++◌, [], map, sym, ap, ◌∙◌}
use Rattle.std.proofs.lemmas.List.{append-nil}
use Rattle.jpg_spec_image.specs.PnmText.{scaled_sample}
use Rattle.jpg_pnm_bmp.proofs.MadeSamples.{all_full}
use Rattle.jpg_pnm_bmp.proofs.read.pnm_samples.add_samples.Goals as goal

pub returns-in-Ok-clause-given : goal.returns-in-Ok-clause-given
returns-in-Ok-clause-given c = λ bytes.
    let samples = c.args.samples.now in
    c.in-Ok.ensures.whole ∙ ap (λ l. c.args.made.now ++ l) (sym (ap (λ m. map (scaled_sample m) samples) c.if-most-eq255.true ∙ all_full samples))

pub returns-in-Err-clause-more : goal.returns-in-Err-clause-more
returns-in-Err-clause-more c = ([], c.in-Err.ensures.same ∙ sym (append-nil c.args.made.now))
