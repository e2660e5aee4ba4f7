use Rattle.std.proofs.Common.{arith}
use Rattle.jpg_spec.specs.Geometry.{component_at}
use Rattle.jpg_color.specs.EncodeBlocks.{AppendsRows, GrowsPlane, strip_image}
use Rattle.jpg_color.proofs.StripRows.{by_planes, grows_none, is_part}
use Rattle.jpg_color.proofs.encode.strips.put_three.Goals as goal
use Rattle.jpg_pnm_bmp.proofs.BmpParts.{on_ok}

pub put_part-requires-clause-part : goal.put_part-requires-clause-part
put_part-requires-clause-part c = is_part c.args.strip.now c.args.windows.now c.as_slice.ensures.value c.requires.windows c.requires.filled (omega (arith, c.requires.three))

pub put_part-requires-2-clause-part : goal.put_part-requires-2-clause-part
put_part-requires-2-clause-part c = is_part c.args.strip.now c.args.windows.now c.as_slice-2.ensures.value c.requires.windows c.requires.filled (omega (arith, c.requires.three))

pub put_part-requires-3-clause-part : goal.put_part-requires-3-clause-part
put_part-requires-3-clause-part c = is_part c.args.strip.now c.args.windows.now c.as_slice-3.ensures.value c.requires.windows c.requires.filled (omega (arith, c.requires.three))

pub returns-in_err-put_part-clause-grows : goal.returns-in_err-put_part-clause-grows
returns-in_err-put_part-clause-grows c = λ i there.
    (let f = c.args.strip.now.frame.now in
    let old = c.args.planes.now in
    by_planes (GrowsPlane f) old.ys.items old.cbs.items old.crs.items _ _ _ i (omega (arith, there, c.requires.strip.count)) c.put_part.ensures.grows (grows_none f 1 old.cbs.items) (grows_none f 2 old.crs.items))

pub returns-in_err-put_part-2-clause-grows : goal.returns-in_err-put_part-2-clause-grows
returns-in_err-put_part-2-clause-grows c = λ i there.
    (let f = c.args.strip.now.frame.now in
    let old = c.args.planes.now in
    by_planes (GrowsPlane f) old.ys.items old.cbs.items old.crs.items _ _ _ i (omega (arith, there, c.requires.strip.count)) c.put_part.ensures.grows c.put_part-2.ensures.grows (grows_none f 2 old.crs.items))

pub returns-clause-grows : goal.returns-clause-grows
returns-clause-grows c = λ i there.
    (let f = c.args.strip.now.frame.now in
    by_planes (GrowsPlane f) c.args.planes.now.ys.items c.args.planes.now.cbs.items c.args.planes.now.crs.items _ _ _ i (omega (arith, there, c.requires.strip.count)) c.put_part.ensures.grows c.put_part-2.ensures.grows c.put_part-3.ensures.grows)

pub returns-clause-rows : goal.returns-clause-rows
returns-clause-rows c =
    let f = c.args.strip.now.frame.now in
    on_ok c.put_part-3.result
    (λ last i there.
    by_planes (λ k. AppendsRows f (strip_image c.args.strip.now) k (component_at f k).v) c.args.planes.now.ys.items c.args.planes.now.cbs.items c.args.planes.now.crs.items _ _ _ i (omega (arith, there, c.requires.strip.count))
    c.in_ok-put_part.ensures.rows c.in_ok-put_part-2.ensures.rows last)
    c.put_part-3.ensures.rows
