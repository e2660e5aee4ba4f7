use Rattle.std.proofs.Common.{Some, sym, ap, ◌∙◌}
use Rattle.jpg_spec_upright.specs.Upright.{transform_for}
use Rattle.jpg_markers.specs.Kept.{kept_pair}
use Rattle.jpg_exif.proofs.Marking.{marked_none, marked_some, orientation_is}
use Rattle.jpg_exif.proofs.upright.mark_segment.Goals as goal

pub returns-in-None-clause-marked : goal.returns-in-None-clause-marked
returns-in-None-clause-marked c = marked_none c.args.kept.now c.args.index (kept_pair c.get.result) c.requires c.get.ensures.value (sym c.turned_place.ensures.found ∙ c.in-None.is)

pub returns-in-Some-clause-transform : goal.returns-in-Some-clause-transform
returns-in-Some-clause-transform c =
    c.transform_for.ensures
    ∙ ap transform_for (sym (orientation_is c.args.kept.now c.args.index (kept_pair c.get.result) (Some c.in-Some.place) c.requires c.get.ensures.value (sym c.turned_place.ensures.found ∙ c.in-Some.is)))

pub returns-in-Some-clause-marked : goal.returns-in-Some-clause-marked
returns-in-Some-clause-marked c =
    c.set_byte.ensures ∙ marked_some c.args.kept.now c.args.index (kept_pair c.get.result) c.in-Some.place c.requires c.get.ensures.value (sym c.turned_place.ensures.found ∙ c.in-Some.is)
