use Rattle.std.proofs.Common.{ℤ, arith}
use Rattle.jpg_spec_image.specs.Dct.{number_at, odd_sums}
use Rattle.jpg_dct.specs.declared.forward.lanes.Four.{Four}
use Rattle.jpg_dct.specs.Eights.{AreEight}
use Rattle.jpg_dct.proofs.Several.{four}
use Rattle.jpg_dct.proofs.Eights.{of_four, odd_first, odd_second, odd_third, odd_fourth, seen_four, four_seen, seen_eight16}
use Rattle.jpg_dct.proofs.forward.lanes.odd.Goals as goal
use Rattle.jpg_dct.proofs.forward.lanes.odd.Goals.{Start}

abbrev lines : (c : Start) → Four
lines c = record { v0 = c.args.m0; v1 = c.args.m1; v2 = c.args.m2; v3 = c.args.m3 }

small : (c : Start) → AreEight 8192 (lines c)
small c = record { at0 = c.requires.0; at1 = c.requires.1; at2 = c.requires.2; at3 = c.requires.3 }

lanes : (c : Start) → AreEight 8192 (seen_four (lines c))
lanes c = four_seen (omega arith) (small c)

pub four_products-v0-requires-clause-lanes : goal.four_products-v0-requires-clause-lanes
four_products-v0-requires-clause-lanes c = lanes (goal.at.four_products-v0-requires-clause-lanes c).Start

pub four_products-v1-requires-clause-lanes : goal.four_products-v1-requires-clause-lanes
four_products-v1-requires-clause-lanes c = lanes (goal.at.four_products-v1-requires-clause-lanes c).Start

pub four_products-v2-requires-clause-lanes : goal.four_products-v2-requires-clause-lanes
four_products-v2-requires-clause-lanes c = lanes (goal.at.four_products-v2-requires-clause-lanes c).Start

pub four_products-v3-requires-clause-lanes : goal.four_products-v3-requires-clause-lanes
four_products-v3-requires-clause-lanes c = lanes (goal.at.four_products-v3-requires-clause-lanes c).Start

pub returns-clause-all : goal.returns-clause-all
returns-clause-all c = record {
  at0 = seen_eight16 (omega arith) c.four_products-v0.ensures.all;
  at1 = seen_eight16 (omega arith) c.four_products-v1.ensures.all;
  at2 = seen_eight16 (omega arith) c.four_products-v2.ensures.all;
  at3 = seen_eight16 (omega arith) c.four_products-v3.ensures.all;
}

pub returns-clause-at : goal.returns-clause-at
unfolding odd_sums
returns-clause-at c = λ k lt. (
    let a : ℤ = number_at c.args.m0 k in
    let b : ℤ = number_at c.args.m1 k in
    let d : ℤ = number_at c.args.m2 k in
    let e : ℤ = number_at c.args.m3 k in
    let start : Start = (goal.at.returns-clause-at c).Start in
    let m = lines start in
    let few = small start in
    four
    (of_four m _ c.four_products-v0.result _ k few c.four_products-v0.ensures.all (c.four_products-v0.ensures.at k lt) (odd_first a b d e))
    (of_four m _ c.four_products-v1.result _ k few c.four_products-v1.ensures.all (c.four_products-v1.ensures.at k lt) (odd_second a b d e))
    (of_four m _ c.four_products-v2.result _ k few c.four_products-v2.ensures.all (c.four_products-v2.ensures.at k lt) (odd_third a b d e))
    (of_four m _ c.four_products-v3.result _ k few c.four_products-v3.ensures.all (c.four_products-v3.ensures.at k lt) (odd_fourth a b d e)))
