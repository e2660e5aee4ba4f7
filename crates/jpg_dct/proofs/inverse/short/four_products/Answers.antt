use Rattle.std.proofs.Common.{rules, FitsSigned, arith}
use Rattle.std.specs.Int.{w32}
use Rattle.jpg_dct.proofs.Eights.{seen_dots, seen_long, seen_eight16}
use Rattle.jpg_dct.proofs.LongSums.{wrapped_at}
use Rattle.jpg_dct.proofs.inverse.short.four_products.Goals as goal

pub dots-first-requires : goal.dots-first-requires
dots-first-requires c = (seen_eight16 (omega arith) c.requires.at0, seen_eight16 (omega arith) c.requires.at1)

pub dots-second-requires : goal.dots-second-requires
dots-second-requires c = (seen_eight16 (omega arith) c.requires.at2, seen_eight16 (omega arith) c.requires.at3)

pub both-requires : goal.both-requires
both-requires c = (seen_long w32 c.dots-first.result c.dots-first.ensures.long, seen_long w32 c.dots-second.result c.dots-second.ensures.long)

pub returns-clause-at : goal.returns-clause-at
returns-clause-at c = λ i lt. (
    let f0 : FitsSigned w32 c.args.factors.0 = search rules in
    let f1 : FitsSigned w32 c.args.factors.1 = search rules in
    let f2 : FitsSigned w32 c.args.factors.2 = search rules in
    let f3 : FitsSigned w32 c.args.factors.3 = search rules in
    let first = seen_dots c.args.v.v0 c.args.v.v1 c.dots-first.result c.args.factors.0 c.args.factors.1 c.requires.at0 c.requires.at1 f0 f1 c.dots-first.ensures.long c.dots-first.ensures.at in
    let second = seen_dots c.args.v.v2 c.args.v.v3 c.dots-second.result c.args.factors.2 c.args.factors.3 c.requires.at2 c.requires.at3 f2 f3 c.dots-second.ensures.long c.dots-second.ensures.at in
    wrapped_at c.both.result i _ c.both.ensures.long lt (c.both.ensures.at i lt _ _ (first i lt) (second i lt)))
