use Rattle.std.proofs.Common.{rules, FitsSigned, ◌∙◌, ap, arith}
use Rattle.std.specs.Int.{w32}
use Rattle.jpg_dct.specs.Eights.{IsEight, four_of, half_rounded}
use Rattle.jpg_dct.proofs.Eights.{AreLanes, seen_dots, seen_long, four_are, more_eight, seen_eight16, seen_eight32, rounded_at}
use Rattle.jpg_dct.proofs.forward.lanes.four_products.Goals as goal
use Rattle.jpg_dct.proofs.forward.lanes.four_products.Goals.{After-both}

pub dots-first-requires : goal.dots-first-requires
dots-first-requires c = (
  seen_eight16 (omega arith) (more_eight (omega arith) c.requires.lanes.at0),
  seen_eight16 (omega arith) (more_eight (omega arith) c.requires.lanes.at1),
)

pub dots-second-requires : goal.dots-second-requires
dots-second-requires c = (
  seen_eight16 (omega arith) (more_eight (omega arith) c.requires.lanes.at2),
  seen_eight16 (omega arith) (more_eight (omega arith) c.requires.lanes.at3),
)

pub both-requires : goal.both-requires
both-requires c = (seen_long w32 c.dots-first.result c.dots-first.ensures.long, seen_long w32 c.dots-second.result c.dots-second.ensures.long)

sums : (c : After-both) → AreLanes (four_of c.args.v c.args.factors) c.both.result
sums c =
    let f0 : FitsSigned w32 c.args.factors.0 = search rules in
    let f1 : FitsSigned w32 c.args.factors.1 = search rules in
    let f2 : FitsSigned w32 c.args.factors.2 = search rules in
    let f3 : FitsSigned w32 c.args.factors.3 = search rules in
    let ea : IsEight 32767 c.args.v.v0 = more_eight (omega arith) c.requires.lanes.at0 in
    let eb : IsEight 32767 c.args.v.v1 = more_eight (omega arith) c.requires.lanes.at1 in
    let ec : IsEight 32767 c.args.v.v2 = more_eight (omega arith) c.requires.lanes.at2 in
    let ed : IsEight 32767 c.args.v.v3 = more_eight (omega arith) c.requires.lanes.at3 in
    let first = seen_dots c.args.v.v0 c.args.v.v1 c.dots-first.result c.args.factors.0 c.args.factors.1 ea eb f0 f1 c.dots-first.ensures.long c.dots-first.ensures.at in
    let second = seen_dots c.args.v.v2 c.args.v.v3 c.dots-second.result c.args.factors.2 c.args.factors.3 ec ed f2 f3 c.dots-second.ensures.long c.dots-second.ensures.at in
    four_are c.args.v c.args.factors c.both.result c.requires.lanes
    c.requires.factors c.both.ensures.long (λ i lt. c.both.ensures.at i lt _ _ (first i lt) (second i lt))

pub rounded-requires : goal.rounded-requires
rounded-requires c = let s = sums (goal.at.rounded-requires c).After-both in seen_eight32 c.both.result s.all

pub returns-clause-all : goal.returns-clause-all
returns-clause-all c = seen_eight16 (omega arith) c.rounded.ensures.all

pub returns-clause-at : goal.returns-clause-at
returns-clause-at c =
    let s = sums (goal.at.returns-clause-at c).After-both in
    λ i lt. rounded_at c.both.result c.rounded.result s.all c.rounded.ensures.all c.rounded.ensures.at i lt ∙ ap half_rounded (s.at i lt)
