use Rattle.std.proofs.Common.{◌∙◌, ap, arith}
use Rattle.jpg_dct.specs.Eights.{half_rounded}
use Rattle.jpg_dct.proofs.Eights.{more_eight, two_are, two_eight, plain_dots, seen_eight16, seen_eight32, rounded_at}
use Rattle.jpg_dct.proofs.forward.lanes.two_products.Goals as goal

pub dots-requires : goal.dots-requires
dots-requires c = (
  seen_eight16 (omega arith) (more_eight (omega arith) c.requires.lanes.0),
  seen_eight16 (omega arith) (more_eight (omega arith) c.requires.lanes.1),
)

pub rounded-requires : goal.rounded-requires
rounded-requires c =
    let at = plain_dots c.args.a c.args.b c.dots.result c.args.k c.args.l (more_eight (omega arith) c.requires.lanes.0) (more_eight (omega arith) c.requires.lanes.1) c.ranges.k c.ranges.l c.dots.ensures.at in
    seen_eight32 c.dots.result (two_eight c.args.a c.args.b c.dots.result c.args.k c.args.l c.requires.lanes.0 c.requires.lanes.1 c.requires.factors c.dots.ensures.long at)

pub returns-clause-all : goal.returns-clause-all
returns-clause-all c = seen_eight16 (omega arith) c.rounded.ensures.all

pub returns-clause-at : goal.returns-clause-at
returns-clause-at c = λ i lt. (
    let at = plain_dots c.args.a c.args.b c.dots.result c.args.k c.args.l (more_eight (omega arith) c.requires.lanes.0) (more_eight (omega arith) c.requires.lanes.1) c.ranges.k c.ranges.l c.dots.ensures.at in
    let all = two_eight c.args.a c.args.b c.dots.result c.args.k c.args.l c.requires.lanes.0 c.requires.lanes.1 c.requires.factors c.dots.ensures.long at in
    rounded_at c.dots.result c.rounded.result all c.rounded.ensures.all c.rounded.ensures.at i lt
    ∙ ap half_rounded (two_are c.args.a c.args.b c.dots.result c.args.k c.args.l c.requires.lanes.0 c.requires.lanes.1 c.requires.factors at i lt))
