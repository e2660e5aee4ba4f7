use Rattle.std.proofs.Common.{ℤ, arith}
use Rattle.std.specs.Int.{w32}
use Rattle.jpg_spec_image.specs.Dct.{number_at, even_sums}
use Rattle.jpg_dct.specs.declared.forward.lanes.Four.{Four}
use Rattle.jpg_dct.specs.Eights.{AreEight}
use Rattle.jpg_dct.proofs.Several.{four}
use Rattle.jpg_dct.proofs.Eights.{seen_four, four_seen, seen_long}
use Rattle.jpg_dct.proofs.LongSums.{four_handed, more_handed, even_first, even_second, even_third, even_fourth}
use Rattle.jpg_dct.proofs.inverse.short.even.Goals as goal
use Rattle.jpg_dct.proofs.inverse.short.even.Goals.{Start}

abbrev lines : (c : Start) → Four
lines c = record { v0 = c.args.i0; v1 = c.args.i2; v2 = c.args.i4; v3 = c.args.i6 }

small : (c : Start) → AreEight 32767 (lines c)
small c = record { at0 = c.requires.0; at1 = c.requires.1; at2 = c.requires.2; at3 = c.requires.3 }

lanes : (c : Start) → AreEight 32767 (seen_four (lines c))
lanes c = four_seen (omega arith) (small c)

pub four_products-b0-requires : goal.four_products-b0-requires
four_products-b0-requires c = lanes (goal.at.four_products-b0-requires c).Start

pub four_products-b1-requires : goal.four_products-b1-requires
four_products-b1-requires c = lanes (goal.at.four_products-b1-requires c).Start

pub four_products-b2-requires : goal.four_products-b2-requires
four_products-b2-requires c = lanes (goal.at.four_products-b2-requires c).Start

pub four_products-b3-requires : goal.four_products-b3-requires
four_products-b3-requires c = lanes (goal.at.four_products-b3-requires c).Start

pub more-v0-requires : goal.more-v0-requires
more-v0-requires c = seen_long w32 c.four_products-b0.result c.four_products-b0.ensures.long

pub more-v1-requires : goal.more-v1-requires
more-v1-requires c = seen_long w32 c.four_products-b1.result c.four_products-b1.ensures.long

pub more-v2-requires : goal.more-v2-requires
more-v2-requires c = seen_long w32 c.four_products-b2.result c.four_products-b2.ensures.long

pub more-v3-requires : goal.more-v3-requires
more-v3-requires c = seen_long w32 c.four_products-b3.result c.four_products-b3.ensures.long

pub returns-clause-long : goal.returns-clause-long
returns-clause-long c = record {
  at0 = seen_long w32 c.more-v0.result c.more-v0.ensures.long;
  at1 = seen_long w32 c.more-v1.result c.more-v1.ensures.long;
  at2 = seen_long w32 c.more-v2.result c.more-v2.ensures.long;
  at3 = seen_long w32 c.more-v3.result c.more-v3.ensures.long;
}

pub returns-clause-at : goal.returns-clause-at
unfolding even_sums
returns-clause-at c = λ k lt. (
    let x : ℤ = number_at c.args.i0 k in
    let y : ℤ = number_at c.args.i2 k in
    let z : ℤ = number_at c.args.i4 k in
    let t : ℤ = number_at c.args.i6 k in
    let start : Start = (goal.at.returns-clause-at c).Start in
    let m = lines start in
    let few = small start in
    four
    (more_handed c.four_products-b0.result c.more-v0.result c.args.half _ k lt c.ranges.half c.more-v0.ensures.long (c.more-v0.ensures.at k lt)
    (four_handed m _ c.four_products-b0.result _ k few c.four_products-b0.ensures.long lt (c.four_products-b0.ensures.at k lt) (even_first x y z t)))
    (more_handed c.four_products-b1.result c.more-v1.result c.args.half _ k lt c.ranges.half c.more-v1.ensures.long (c.more-v1.ensures.at k lt)
    (four_handed m _ c.four_products-b1.result _ k few c.four_products-b1.ensures.long lt (c.four_products-b1.ensures.at k lt) (even_second x y z t)))
    (more_handed c.four_products-b2.result c.more-v2.result c.args.half _ k lt c.ranges.half c.more-v2.ensures.long (c.more-v2.ensures.at k lt)
    (four_handed m _ c.four_products-b2.result _ k few c.four_products-b2.ensures.long lt (c.four_products-b2.ensures.at k lt) (even_third x y z t)))
    (more_handed c.four_products-b3.result c.more-v3.result c.args.half _ k lt c.ranges.half c.more-v3.ensures.long (c.more-v3.ensures.at k lt)
    (four_handed m _ c.four_products-b3.result _ k few c.four_products-b3.ensures.long lt (c.four_products-b3.ensures.at k lt) (even_fourth x y z t))))
