use Rattle.std.proofs.Common.{◌≡◌, ◌++◌, take, map}
use Rattle.jpg_spec_image.specs.PnmText.{scaled_sample}
use Rattle.jpg_pnm_bmp.specs.Made.{AreBytes, IsMore}
use Rattle.jpg_pnm_bmp.proofs.read.make.add_scaled.Given as goal

abbrev pub invariant-loop-sample : goal.invariant-loop-sample
invariant-loop-sample l = record {
  scaled : AreBytes (map (scaled_sample l.most) l.samples) → l.made ≡ l.fn.made ++ map (scaled_sample l.most) (take l.sample-index l.samples);
  more : IsMore l.fn.made l.made;
}
