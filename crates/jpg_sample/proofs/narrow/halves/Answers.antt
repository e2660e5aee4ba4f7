use Rattle.std.proofs.Common.{rules, ◌<◌, length, ◌∙◌, arith}
use Rattle.std.proofs.lemmas.List.{length-set}
use Rattle.jpg_spec_image.specs.Downsampling.{edge_repeated, in_rows, downsampled}
use Rattle.jpg_sample.proofs.Sums.{half_as, mean_more, row_done}
use Rattle.jpg_sample.proofs.narrow.halves.Goals as goal

pub loop-x-preserved : goal.loop-x-preserved
loop-x-preserved c =
    let width = c.args.width in
    let row = c.args.row.now in
    let low : c.loop-x.x < length c.args.out.now = search rules in (
      length-set c.loop-x.out c.loop-x.x _ ∙ c.loop-x.invariant.0,
      mean_more (λ k. downsampled 2 1 (edge_repeated width 1 (in_rows width row)) k 0) c.loop-x.out c.loop-x.x c.half.result (search rules) c.loop-x.invariant.1
          (half_as row width c.loop-x.x _ _ c.half.result (omega (arith, low, c.requires.there)) c.from.ensures c.from-in-loop-x.ensures c.half.ensures),
    )

pub returns : goal.returns
returns c = row_done 2 1 c.args.width c.args.row.now c.loop-x.out c.loop-x.x _ c.loop-x.invariant.0 (search rules) c.loop-x.invariant.1
