use Rattle.std.proofs.Common.{ℤ, arith}
use Rattle.std.specs.Int.{w32}
use Rattle.jpg_spec_image.specs.Dct.{number_at, odd_sums}
use Rattle.jpg_dct.specs.declared.forward.lanes.Four.{Four}
use Rattle.jpg_dct.specs.Eights.{AreEight}
use Rattle.jpg_dct.proofs.Several.{four}
use Rattle.jpg_dct.proofs.Eights.{seen_four, four_seen, seen_long}
use Rattle.jpg_dct.proofs.LongSums.{four_handed, odd_first, odd_second, odd_third, odd_fourth}
use Rattle.jpg_dct.proofs.inverse.short.odd.Goals as goal
use Rattle.jpg_dct.proofs.inverse.short.odd.Goals.{Start}

abbrev lines : (c : Start) → Four
lines c = record { v0 = c.args.i1; v1 = c.args.i3; v2 = c.args.i5; v3 = c.args.i7 }

small : (c : Start) → AreEight 32767 (lines c)
small c = record { at0 = c.requires.0; at1 = c.requires.1; at2 = c.requires.2; at3 = c.requires.3 }

lanes : (c : Start) → AreEight 32767 (seen_four (lines c))
lanes c = four_seen (omega arith) (small c)

pub four_products-v0-requires : goal.four_products-v0-requires
four_products-v0-requires c = lanes (goal.at.four_products-v0-requires c).Start

pub four_products-v1-requires : goal.four_products-v1-requires
four_products-v1-requires c = lanes (goal.at.four_products-v1-requires c).Start

pub four_products-v2-requires : goal.four_products-v2-requires
four_products-v2-requires c = lanes (goal.at.four_products-v2-requires c).Start

pub four_products-v3-requires : goal.four_products-v3-requires
four_products-v3-requires c = lanes (goal.at.four_products-v3-requires c).Start

pub returns-clause-long : goal.returns-clause-long
returns-clause-long c = record {
  at0 = seen_long w32 c.four_products-v0.result c.four_products-v0.ensures.long;
  at1 = seen_long w32 c.four_products-v1.result c.four_products-v1.ensures.long;
  at2 = seen_long w32 c.four_products-v2.result c.four_products-v2.ensures.long;
  at3 = seen_long w32 c.four_products-v3.result c.four_products-v3.ensures.long;
}

pub returns-clause-at : goal.returns-clause-at
unfolding odd_sums
returns-clause-at c = λ k lt. (
    let x : ℤ = number_at c.args.i1 k in
    let y : ℤ = number_at c.args.i3 k in
    let z : ℤ = number_at c.args.i5 k in
    let t : ℤ = number_at c.args.i7 k in
    let start : Start = (goal.at.returns-clause-at c).Start in
    let m = lines start in
    let few = small start in
    four
    (four_handed m _ c.four_products-v0.result _ k few c.four_products-v0.ensures.long lt (c.four_products-v0.ensures.at k lt) (odd_first x y z t))
    (four_handed m _ c.four_products-v1.result _ k few c.four_products-v1.ensures.long lt (c.four_products-v1.ensures.at k lt) (odd_second x y z t))
    (four_handed m _ c.four_products-v2.result _ k few c.four_products-v2.ensures.long lt (c.four_products-v2.ensures.at k lt) (odd_third x y z t))
    (four_handed m _ c.four_products-v3.result _ k few c.four_products-v3.ensures.long lt (c.four_products-v3.ensures.at k lt) (odd_fourth x y z t)))
