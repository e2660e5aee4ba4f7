use Rattle.std.proofs.Common.{sym, subst}
use Rattle.jpg_desk.specs.ImageSamples.{EndsSamples}
use Rattle.jpg_desk.specs.declared.image_samples.ImageSamples.{ImageSamples}
use Rattle.jpg_desk.proofs.SampleAnswers.{pnm_ends, targa_ends}
use Rattle.jpg_desk.proofs.image_samples.ImageSamples.end.Goals as goal

pub returns-in-Pnm : goal.returns-in-Pnm
returns-in-Pnm c = subst (λ (old : ImageSamples). EndsSamples old c.args.made.now c.end_pnm.result c.end_pnm.new.made) (sym c.in-Pnm.is) (pnm_ends c.in-Pnm.samples c.args.made.now c.end_pnm.new.made c.end_pnm.result c.end_pnm.ensures)

pub returns-in-Targa : goal.returns-in-Targa
returns-in-Targa c = subst (λ (old : ImageSamples). EndsSamples old c.args.made.now c.end_targa.result c.args.made.now) (sym c.in-Targa.is) (targa_ends c.in-Targa.samples c.args.made.now c.end_targa.result c.end_targa.ensures)
