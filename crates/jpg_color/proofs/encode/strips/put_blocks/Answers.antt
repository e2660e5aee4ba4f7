use Rattle.std.proofs.Common.{rules, ◌≡◌, ◌∙◌, subst, sym, arith}
use Rattle.jpg_spec.specs.Geometry.{component_at}
use Rattle.jpg_color.specs.EncodeBlocks.{AppendsRows, GrowsPlane, source_image}
use Rattle.jpg_color.specs.PlaneRows.{cut_in_blocks}
use Rattle.jpg_color.proofs.StripRows.{all_under, appends_more, appends_none, grows_more, grows_none, row_made, row_whole}
use Rattle.jpg_color.proofs.encode.strips.put_blocks.Goals as goal

pub loop-y-init : goal.loop-y-init
loop-y-init c = (
  c.requires.eight,
  appends_none c.args.frame.now (source_image c.args.source.now) c.args.source.now.plane.component c.args.plane.now.items,
  grows_none c.args.frame.now c.args.source.now.plane.component c.args.plane.now.items,
)

pub block_rows-requires-clause-under : goal.block_rows-requires-clause-under
block_rows-requires-clause-under c = all_under c.loop-y.y c.requires.source (search rules)

pub loop-y-preserved : goal.loop-y-preserved
loop-y-preserved c =
    let rows = c.block_rows.new.out in
    let row = cut_in_blocks c.args.source.now.wide rows in (
      c.block_rows.ensures.long ∙ c.loop-y.invariant.0,
      appends_more row c.loop-y.invariant.1 (row_made c.loop-y.y rows c.requires.source c.block_rows.ensures.blocks) c.in_ok-push_row.ensures.pushed,
      grows_more row c.loop-y.invariant.2 (row_whole rows c.requires.source c.push_row.ensures.bytes) c.in_ok-push_row.ensures.pushed,
    )

pub returns-in_err-push_row-clause-grows : goal.returns-in_err-push_row-clause-grows
returns-in_err-push_row-clause-grows c = subst (GrowsPlane c.args.frame.now c.args.source.now.plane.component c.args.plane.now.items) (sym c.in_err-push_row.ensures.same) c.loop-y.invariant.2

pub returns-clause-rows : goal.returns-clause-rows
returns-clause-rows c =
    let f = c.args.frame.now in
    let all : c.loop-y.y ≡ (component_at f c.args.source.now.plane.component).v = omega (arith, c.loop-y-test.false, c.requires.source.count, c.loop-y.auto.y-end) in
    subst (λ n. AppendsRows f (source_image c.args.source.now) c.args.source.now.plane.component n c.args.plane.now.items c.loop-y.plane.items) all c.loop-y.invariant.1
