use Rattle.std.proofs.Common.{◌∙◌, subst}
use Rattle.jpg_spec.specs.Geometry.{Frame, padded_blocks}
use Rattle.jpg_coefs.specs.Copied.{CopiesBlocks, in_grids}
use Rattle.jpg_transform.specs.MovedBlocks.{moved_blocks}
use Rattle.jpg_coefs.proofs.Copied.{zero_outside}
use Rattle.jpg_transform.proofs.Applied.{shows_all}
use Rattle.jpg_transform.proofs.MovedFile.{writes_plan}
use Rattle.jpg_transform.proofs.applying.apply.Goals as goal

pub returns-clause-shows : goal.returns-clause-shows
returns-clause-shows c =
    let seen = moved_blocks c.new-moved.result in
    let old = c.in_ok-coefs.coefs in
    let new = c.put_components.new.coefs in
    shows_all c.args.picture.now c.args.job.now seen old new (padded_blocks c.frame.result.now) c.new-moved.ensures.shows c.in_ok-coefs.ensures.zero
    (subst (λ (f : Frame). CopiesBlocks (in_grids f) seen old new) c.new-moved.ensures.frame c.put_components.ensures)

pub returns-clause-zero : goal.returns-clause-zero
returns-clause-zero c =
    let seen = moved_blocks c.new-moved.result in
    let old = c.in_ok-coefs.coefs in
    let new = c.put_components.new.coefs in
    zero_outside c.args.job.now.plan.out.frame seen old new (padded_blocks c.frame.result.now) c.in_ok-coefs.ensures.zero
    (subst (λ (f : Frame). CopiesBlocks (in_grids f) seen old new) c.new-moved.ensures.frame c.put_components.ensures)

pub returns-clause-writes : goal.returns-clause-writes
returns-clause-writes c = λ choice h.
    writes_plan c.args.picture.now choice c.args.job.now.plan _ _ ((c.put_components.ensures).frame ∙ c.in_ok-coefs.ensures.frame ∙ c.frame.ensures ∙ c.new-moved.ensures.frame) c.checked.ensures h.planned (returns-clause-shows c choice h)
