use Rattle.std.proofs.Common.{rules, subst, arith, ap, ◌∙◌}
use Rattle.jpg_coefs.specs.Picture.{map_of}
use Rattle.jpg_spec_image.specs.Dct.{dequantised, inverse_dct}
use Rattle.jpg_color.specs.KeptRows.{stride}
use Rattle.jpg_color.specs.RowBytes.{PutsBlock}
use Rattle.jpg_color.proofs.RowsPut.{columns_step}
use Rattle.jpg_color.proofs.SamplesRead.{first_there, block_is, read_small, told_by}
use Rattle.jpg_color.proofs.decode.sample_rows.put_row_of_blocks.Goals as goal

pub samples_by-block-requires-clause-small : goal.samples_by-block-requires-clause-small
samples_by-block-requires-clause-small c =
    let q = c.args.of.coefs.now in
    let there = first_there q c.args.of.component c.args.of.first c.args.wide c.args.of.count c.loop-x.x c.requires.there (search rules) (c.requires.rows.0) in
    read_small q c.args.of.component c.args.of.first c.args.wide c.args.of.count c.loop-x.x c.block.result c.requires.there
    (block_is q c.args.of.component c.loop-x.x c.args.of.first c.block.result there c.block.ensures)

pub loop-x-preserved : goal.loop-x-preserved
loop-x-preserved c =
    let q = c.args.of.coefs.now in
    let x = c.loop-x.x in
    let there = first_there q c.args.of.component c.args.of.first c.args.wide c.args.of.count x c.requires.there (search rules) (c.requires.rows.0) in
    let samples = c.samples_by-block.result in
    let put : PutsBlock (stride c.args.wide) c.args.row x c.args.of.count samples c.loop-x.samples c.put_block.new.samples =
    subst (λ line. PutsBlock line c.args.row x c.args.of.count samples c.loop-x.samples c.put_block.new.samples) c.line_of-line.ensures.value c.put_block.ensures
    in
    columns_step x (search rules) c.loop-x.invariant (record {
      block = samples;
      put = put;
      told = λ y k hy hk. told_by c.args.of.quants.now (map_of q) c.args.of.component c.args.of.first x
          (c.samples_by-block.ensures ∙ ap (λ b. inverse_dct (dequantised c.args.of.quants.now b)) (block_is q c.args.of.component x c.args.of.first c.block.result there c.block.ensures))
          y k (omega (arith, hy, c.requires.rows)) hk;
    })
