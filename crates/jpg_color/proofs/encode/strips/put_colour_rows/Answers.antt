use Rattle.std.proofs.Common.{◌*◌, arith}
use Rattle.std.proofs.lemmas.Nat.{row_fits}
use Rattle.jpg_spec.specs.Geometry.{v_max}
use Rattle.jpg_color.proofs.PlaneWindows.{next_row_more}
use Rattle.jpg_color.proofs.encode.strips.put_colour_rows.Goals as goal

pub put_colour_row-requires-clause-luminance : goal.put_colour_row-requires-clause-luminance
put_colour_row-requires-clause-luminance c =
    let wide = c.args.strip.now.info.now.width in
    let fits = row_fits c.loop-r.r wide (8 * v_max c.args.strip.now.frame.now) wide (omega (arith, c.loop-r-test.true, c.v_max.ensures.value)) (omega arith) in
    omega (arith, fits, c.requires.luminance, c.loop-r.invariant.0.0)

pub loop-r-preserved : goal.loop-r-preserved
loop-r-preserved c =
    let lines = 8 * v_max c.args.strip.now.frame.now in
    let is = c.loop-r.invariant in
    let puts = c.put_colour_row.ensures in (
      next_row_more lines c.args.ys.now is.0 puts.luminance,
      next_row_more lines c.args.cbs.now is.1 puts.blue,
      next_row_more lines c.args.crs.now is.2 puts.red,
    )

pub returns-clause-luminance : goal.returns-clause-luminance
returns-clause-luminance c = (
  c.loop-r.invariant.0.0,
  λ r u lr lu. c.loop-r.invariant.0.1 r u (omega (arith, lr, c.loop-r-test.false, c.v_max.ensures.value, c.loop-r.auto.r-end)) lu,
)

pub returns-clause-blue : goal.returns-clause-blue
returns-clause-blue c = (
  c.loop-r.invariant.1.0,
  λ r u lr lu. c.loop-r.invariant.1.1 r u (omega (arith, lr, c.loop-r-test.false, c.v_max.ensures.value, c.loop-r.auto.r-end)) lu,
)

pub returns-clause-red : goal.returns-clause-red
returns-clause-red c = (
  c.loop-r.invariant.2.0,
  λ r u lr lu. c.loop-r.invariant.2.1 r u (omega (arith, lr, c.loop-r-test.false, c.v_max.ensures.value, c.loop-r.auto.r-end)) lu,
)
