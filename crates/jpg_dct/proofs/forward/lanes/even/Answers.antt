use Rattle.std.specs.Int.{w16}
use Rattle.std.proofs.Common.{ℤ, ◌+ℤ◌, ◌-ℤ◌, arith, ◌∙◌}
use Rattle.jpg_spec_image.specs.Dct.{number_at}
use Rattle.jpg_spec_image.specs.ForwardDct.{even_frequencies}
use Rattle.jpg_dct.proofs.Several.{four}
use Rattle.jpg_dct.proofs.Eights.{AreSums, seen, sums_made, differences_made, room_as, handed, even_first, even_second, even_third, even_fourth, seen_eight16}
use Rattle.jpg_dct.proofs.forward.lanes.even.Goals as goal
use Rattle.jpg_dct.proofs.forward.lanes.even.Goals.{After-minus-q3}

-- the sums and the differences of pairs
record Pairs (c : After-minus-q3) : Type 0 where
  q0 : AreSums 16384 (λ x y. x +ℤ y) c.args.p0 c.args.p3 (seen w16 c.plus-q0.result)
  q1 : AreSums 16384 (λ x y. x +ℤ y) c.args.p1 c.args.p2 (seen w16 c.plus-q1.result)
  q2 : AreSums 16384 (λ x y. x -ℤ y) c.args.p1 c.args.p2 (seen w16 c.minus-q2.result)
  q3 : AreSums 16384 (λ x y. x -ℤ y) c.args.p0 c.args.p3 (seen w16 c.minus-q3.result)

pairs : (c : After-minus-q3) → Pairs c
pairs c =
    let lanes = c.requires.lanes in
    record {
      q0 = sums_made c.plus-q0.result (omega arith) lanes.0 lanes.3 c.plus-q0.ensures.long c.plus-q0.ensures.at;
      q1 = sums_made c.plus-q1.result (omega arith) lanes.1 lanes.2 c.plus-q1.ensures.long c.plus-q1.ensures.at;
      q2 = differences_made c.minus-q2.result (omega arith) lanes.1 lanes.2 c.minus-q2.ensures.long c.minus-q2.ensures.at;
      q3 = differences_made c.minus-q3.result (omega arith) lanes.0 lanes.3 c.minus-q3.ensures.long c.minus-q3.ensures.at;
    }

pub plus-q0-requires : goal.plus-q0-requires
plus-q0-requires c = (seen_eight16 (omega arith) c.requires.lanes.0, seen_eight16 (omega arith) c.requires.lanes.3)

pub plus-q1-requires : goal.plus-q1-requires
plus-q1-requires c = (seen_eight16 (omega arith) c.requires.lanes.1, seen_eight16 (omega arith) c.requires.lanes.2)

pub minus-q2-requires : goal.minus-q2-requires
minus-q2-requires c = (seen_eight16 (omega arith) c.requires.lanes.1, seen_eight16 (omega arith) c.requires.lanes.2)

pub minus-q3-requires : goal.minus-q3-requires
minus-q3-requires c = (seen_eight16 (omega arith) c.requires.lanes.0, seen_eight16 (omega arith) c.requires.lanes.3)

pub quarter_sums-v0-requires-clause-lanes : goal.quarter_sums-v0-requires-clause-lanes
quarter_sums-v0-requires-clause-lanes c = let s = pairs (goal.at.quarter_sums-v0-requires-clause-lanes c).After-minus-q3 in (s.q0.all, s.q1.all)

pub quarter_sums-v0-requires-clause-room : goal.quarter_sums-v0-requires-clause-room
quarter_sums-v0-requires-clause-room c =
    let s = pairs (goal.at.quarter_sums-v0-requires-clause-room c).After-minus-q3 in
    λ k lt. room_as (λ x y. x +ℤ y) _ _ _ _ (s.q0.at k lt) (s.q1.at k lt) (c.requires.sums k lt)

pub two_products-v1-requires-clause-lanes : goal.two_products-v1-requires-clause-lanes
two_products-v1-requires-clause-lanes c = let s = pairs (goal.at.two_products-v1-requires-clause-lanes c).After-minus-q3 in (s.q3.all, s.q2.all)

pub quarter_differences-v2-requires-clause-lanes : goal.quarter_differences-v2-requires-clause-lanes
quarter_differences-v2-requires-clause-lanes c = let s = pairs (goal.at.quarter_differences-v2-requires-clause-lanes c).After-minus-q3 in (s.q0.all, s.q1.all)

pub quarter_differences-v2-requires-clause-room : goal.quarter_differences-v2-requires-clause-room
quarter_differences-v2-requires-clause-room c =
    let s = pairs (goal.at.quarter_differences-v2-requires-clause-room c).After-minus-q3 in
    λ k lt. room_as (λ x y. x -ℤ y) _ _ _ _ (s.q0.at k lt) (s.q1.at k lt) (c.requires.gaps k lt)

pub two_products-v3-requires-clause-lanes : goal.two_products-v3-requires-clause-lanes
two_products-v3-requires-clause-lanes c = let s = pairs (goal.at.two_products-v3-requires-clause-lanes c).After-minus-q3 in (s.q3.all, s.q2.all)

pub returns-clause-all : goal.returns-clause-all
returns-clause-all c = record {
  at0 = seen_eight16 (omega arith) c.quarter_sums-v0.ensures.all;
  at1 = seen_eight16 (omega arith) c.two_products-v1.ensures.all;
  at2 = seen_eight16 (omega arith) c.quarter_differences-v2.ensures.all;
  at3 = seen_eight16 (omega arith) c.two_products-v3.ensures.all;
}

pub returns-clause-at : goal.returns-clause-at
unfolding even_frequencies
returns-clause-at c = λ k lt. (
    let s = pairs (goal.at.returns-clause-at c).After-minus-q3 in
    let p0 : ℤ = number_at c.args.p0 k in
    let p1 : ℤ = number_at c.args.p1 k in
    let p2 : ℤ = number_at c.args.p2 k in
    let p3 : ℤ = number_at c.args.p3 k in
    four
    (handed k c.quarter_sums-v0.ensures.all (c.quarter_sums-v0.ensures.at k lt ∙ even_first p0 p1 p2 p3 _ _ (s.q0.at k lt) (s.q1.at k lt)))
    (handed k c.two_products-v1.ensures.all (c.two_products-v1.ensures.at k lt ∙ even_second p0 p1 p2 p3 _ _ (s.q2.at k lt) (s.q3.at k lt)))
    (handed k c.quarter_differences-v2.ensures.all (c.quarter_differences-v2.ensures.at k lt ∙ even_third p0 p1 p2 p3 _ _ (s.q0.at k lt) (s.q1.at k lt)))
    (handed k c.two_products-v3.ensures.all (c.two_products-v3.ensures.at k lt ∙ even_fourth p0 p1 p2 p3 _ _ (s.q2.at k lt) (s.q3.at k lt))))
