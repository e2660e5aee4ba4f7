use Rattle.std.proofs.Common.{◌++◌, ◌∙◌, ap, List, ℕ, arith}
use Rattle.jpg_spec_image.specs.ImageText.{file_samples}
use Rattle.jpg_spec_image.specs.TargaFile.{targa_kind, targa_row}
use Rattle.jpg_pnm_bmp.proofs.MadeSamples.{rows_more}
use Rattle.jpg_targa.proofs.read.make.add_rows.Goals as goal

pub loop-y-preserved : goal.loop-y-preserved
loop-y-preserved c =
    let head = c.args.head.now in
    record {
      inside = (let t = c.loop-y-test.true in let h = c.height.ensures in omega (arith, t, h));
      rows = rows_more (λ y. file_samples (targa_kind head) (targa_row head c.args.pixels.now y)) c.args.made.now c.loop-y.made c.add_file_row.new.made c.loop-y.y c.loop-y.invariant.rows
          (c.in-Ok.ensures ∙ ap (λ k. c.loop-y.made ++ file_samples k c.targa_row.result.now) c.kind.ensures ∙ ap (λ (l : List ℕ). c.loop-y.made ++ file_samples (targa_kind head) l) c.targa_row.ensures);
    }
