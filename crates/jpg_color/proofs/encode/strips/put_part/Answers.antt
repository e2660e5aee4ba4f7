use Rattle.std.proofs.Common.{ℕ, subst}
use Rattle.std.specs.Prelude.{OnOk}
use Rattle.jpg_spec_image.specs.Images.{Image}
use Rattle.jpg_color.specs.EncodeBlocks.{AppendsAll, GrowsPlane, strip_image}
use Rattle.jpg_color.proofs.encode.strips.put_part.Goals as goal

pub returns-clause-rows : goal.returns-clause-rows
returns-clause-rows c =
    let f = c.args.strip.now.frame.now in
    let old = c.args.plane.now.items in
    let new = c.put_rows_of.new.plane.items in
    let is = c.source_of-source.ensures in
    subst (λ (i : ℕ). OnOk c.put_rows_of.result (AppendsAll f (strip_image c.args.strip.now) i old new)) is.component
    (subst (λ (image : Image). OnOk c.put_rows_of.result (AppendsAll f image c.source_of-source.result.plane.component old new)) is.image c.put_rows_of.ensures.rows)

pub returns-clause-grows : goal.returns-clause-grows
returns-clause-grows c =
    subst (λ (i : ℕ). GrowsPlane c.args.strip.now.frame.now i c.args.plane.now.items c.put_rows_of.new.plane.items) c.source_of-source.ensures.component c.put_rows_of.ensures.grows
