use Rattle.std.proofs.Common.{rules, ◌∙◌, refl}
use Rattle.std.proofs.lemmas.List.{length-set}
use Rattle.jpg_spec_image.specs.Downsampling.{edge_repeated, in_rows, downsampled}
use Rattle.jpg_sample.proofs.Sums.{one_mean, mean_more, row_done, row_made}
use Rattle.jpg_sample.proofs.narrow.means.Goals as goal

pub loop-x-init : goal.loop-x-init
loop-x-init c = (refl, row_made c.args.ratio.across c.args.ratio.down c.args.width c.args.rows.now c.args.out.now c.args.from c.requires.made)

pub loop-x-preserved : goal.loop-x-preserved
loop-x-preserved c =
    let across = c.args.ratio.across in
    let down = c.args.ratio.down in
    let width = c.args.width in
    let rows = c.args.rows.now in (
      length-set c.loop-x.out c.loop-x.x _ ∙ c.loop-x.invariant.0,
      mean_more (λ k. downsampled across down (edge_repeated width down (in_rows width rows)) k 0) c.loop-x.out c.loop-x.x c.mean.result (search rules) c.loop-x.invariant.1
          (one_mean rows width across down c.loop-x.x c.first_of-first.result c.block_sum-sum.result c.mean.result c.requires.across.0 c.requires.some.0 c.first_of-first.ensures.value c.block_sum-sum.ensures.value c.mean.ensures),
    )

pub returns : goal.returns
returns c =
    row_done c.args.ratio.across c.args.ratio.down c.args.width c.args.rows.now c.loop-x.out c.loop-x.x _ c.loop-x.invariant.0 (search rules) c.loop-x.invariant.1
