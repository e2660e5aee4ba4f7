use Rattle.std.proofs.Common.{◌*◌, arith}
use Rattle.std.proofs.lemmas.Nat.{row_fits}
use Rattle.jpg_spec.specs.Geometry.{v_max}
use Rattle.jpg_color.proofs.PlaneWindows.{next_row_more}
use Rattle.jpg_color.proofs.encode.strips.put_rows.Goals as goal

pub put_row-requires-clause-there : goal.put_row-requires-clause-there
put_row-requires-clause-there c =
    let wide = c.args.strip.now.info.now.width in
    let fits = row_fits c.loop-r.r wide (8 * v_max c.args.strip.now.frame.now) wide (omega (arith, c.loop-r-test.true, c.v_max.ensures.value)) (omega arith) in
    omega (arith, fits, c.requires.room, c.loop-r.invariant.0)

pub loop-r-preserved : goal.loop-r-preserved
loop-r-preserved c = next_row_more (8 * v_max c.args.strip.now.frame.now) c.args.rows.now c.loop-r.invariant c.put_row.ensures

pub returns-clause-rows : goal.returns-clause-rows
returns-clause-rows c = λ r u lr lu. c.loop-r.invariant.1 r u (omega (arith, lr, c.loop-r-test.false, c.v_max.ensures.value, c.loop-r.auto.r-end)) lu
