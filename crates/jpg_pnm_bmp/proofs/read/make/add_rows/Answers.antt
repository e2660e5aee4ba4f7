use Rattle.std.proofs.Common.{◌<◌, ◌++◌, ◌∙◌, ap, sym, subst, List, ℕ, arith}
use Rattle.jpg_spec_image.specs.BmpFile.{colours, bmp_line, height}
use Rattle.jpg_pnm_bmp.proofs.MadeSamples.{rows_more}
use Rattle.jpg_pnm_bmp.specs.Made.{AreIndexes}
use Rattle.jpg_pnm_bmp.proofs.AllThere.{row_indexes}
use Rattle.jpg_pnm_bmp.proofs.read.make.add_rows.Goals as goal

pub loop-y-preserved : goal.loop-y-preserved
loop-y-preserved c =
    let head = c.args.head.now in
    let palette = c.args.palette.now in
    record {
      inside = (let t = c.loop-y-test.true in let h = c.bmp_height.ensures in omega (arith, t, h));
      rows = rows_more (λ y. colours head palette (bmp_line head c.args.body.now y)) c.args.made.now c.loop-y.made c.add_row.new.made c.loop-y.y c.loop-y.invariant.rows
          (c.in-Ok.ensures ∙ ap (λ (l : List ℕ). c.loop-y.made ++ colours head palette l) c.bmp_line.ensures);
    }

pub add_row-requires-clause-coloured : goal.add_row-requires-clause-coloured
add_row-requires-clause-coloured c = λ depth.
    let inside : c.loop-y.y < height c.args.head.now = (let t = c.loop-y-test.true in let h = c.bmp_height.ensures in omega (arith, t, h)) in
    subst (AreIndexes c.args.palette.now) (sym c.bmp_line.ensures)
    (row_indexes c.args.head.now c.args.palette.now c.args.body.now c.loop-y.y c.requires inside depth)
