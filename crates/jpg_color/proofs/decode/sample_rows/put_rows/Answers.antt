use Rattle.std.proofs.Common.{◌+◌, ◌*◌, subst}
use Rattle.jpg_coefs.specs.Picture.{map_of}
use Rattle.jpg_color.specs.KeptRows.{stride, sample_in}
use Rattle.jpg_color.specs.RowBytes.{PutsRows}
use Rattle.jpg_color.proofs.RowsPut.{rows_step}
use Rattle.jpg_color.proofs.SamplesRead.{further}
use Rattle.jpg_color.proofs.decode.sample_rows.put_rows.Goals as goal

pub loop-b-preserved : goal.loop-b-preserved
loop-b-preserved c =
    let blocks = map_of c.args.of.coefs.now in
    let b = c.loop-b.b in
    let line = stride c.args.wide in
    let part = sample_in c.args.of.quants.now blocks c.args.of.component (c.args.of.first + b) in
    rows_step c.args.of.count b c.loop-b.invariant (record {
      part = part;
      put = subst (λ n. PutsRows line (c.args.kept + 8 * b) n line part c.loop-b.samples c.put_row_of_blocks.new.samples) c.min.ensures c.put_row_of_blocks.ensures;
      told = λ y x h. further c.args.of.quants.now blocks c.args.of.component c.args.of.first b y x;
    })
