use Rattle.std.specs.Int.{w16}
use Rattle.std.proofs.Common.{ℕ, ◌<◌, ℤ, List, map, ◌≡◌, ◌+ℤ◌, ◌-ℤ◌, ap, arith, ◌∙◌}
use Rattle.jpg_spec_image.specs.Dct.{number_at, odd_sums}
use Rattle.jpg_spec_image.specs.ForwardDct.{even_frequencies, frequency_column, woven}
use Rattle.jpg_dct.specs.Eights.{IsEight, eighth, four_at}
use Rattle.jpg_dct.proofs.Several.{each_of_eight, eight, same4}
use Rattle.jpg_dct.proofs.Eights.{AreSums, FourPairs, in_line, line_seen, pair_in, sum_room, gap_room, seen, sums_made, differences_made, handed, seen_eight16}
use Rattle.jpg_dct.proofs.forward.lanes.lines.Goals as goal
use Rattle.jpg_dct.proofs.forward.lanes.lines.Goals.{After-minus-m3}

-- the sums and the differences of pairs of lines
record Pairs (c : After-minus-m3) : Type 0 where
  p0 : AreSums 8192 (λ x y. x +ℤ y) c.args.d.v0 c.args.d.v7 (seen w16 c.plus-p0.result)
  p1 : AreSums 8192 (λ x y. x +ℤ y) c.args.d.v1 c.args.d.v6 (seen w16 c.plus-p1.result)
  p2 : AreSums 8192 (λ x y. x +ℤ y) c.args.d.v2 c.args.d.v5 (seen w16 c.plus-p2.result)
  p3 : AreSums 8192 (λ x y. x +ℤ y) c.args.d.v3 c.args.d.v4 (seen w16 c.plus-p3.result)
  m0 : AreSums 8192 (λ x y. x -ℤ y) c.args.d.v0 c.args.d.v7 (seen w16 c.minus-m0.result)
  m1 : AreSums 8192 (λ x y. x -ℤ y) c.args.d.v1 c.args.d.v6 (seen w16 c.minus-m1.result)
  m2 : AreSums 8192 (λ x y. x -ℤ y) c.args.d.v2 c.args.d.v5 (seen w16 c.minus-m2.result)
  m3 : AreSums 8192 (λ x y. x -ℤ y) c.args.d.v3 c.args.d.v4 (seen w16 c.minus-m3.result)

pairs : (c : After-minus-m3) → Pairs c
pairs c = record {
  p0 = sums_made c.plus-p0.result (omega arith) (c.requires 0 (omega arith)).small (c.requires 7 (omega arith)).small c.plus-p0.ensures.long c.plus-p0.ensures.at;
  p1 = sums_made c.plus-p1.result (omega arith) (c.requires 1 (omega arith)).small (c.requires 6 (omega arith)).small c.plus-p1.ensures.long c.plus-p1.ensures.at;
  p2 = sums_made c.plus-p2.result (omega arith) (c.requires 2 (omega arith)).small (c.requires 5 (omega arith)).small c.plus-p2.ensures.long c.plus-p2.ensures.at;
  p3 = sums_made c.plus-p3.result (omega arith) (c.requires 3 (omega arith)).small (c.requires 4 (omega arith)).small c.plus-p3.ensures.long c.plus-p3.ensures.at;
  m0 = differences_made c.minus-m0.result (omega arith) (c.requires 0 (omega arith)).small (c.requires 7 (omega arith)).small c.minus-m0.ensures.long c.minus-m0.ensures.at;
  m1 = differences_made c.minus-m1.result (omega arith) (c.requires 1 (omega arith)).small (c.requires 6 (omega arith)).small c.minus-m1.ensures.long c.minus-m1.ensures.at;
  m2 = differences_made c.minus-m2.result (omega arith) (c.requires 2 (omega arith)).small (c.requires 5 (omega arith)).small c.minus-m2.ensures.long c.minus-m2.ensures.at;
  m3 = differences_made c.minus-m3.result (omega arith) (c.requires 3 (omega arith)).small (c.requires 4 (omega arith)).small c.minus-m3.ensures.long c.minus-m3.ensures.at;
}

-- the sums at lane k
sums_in : (c : After-minus-m3) (k : ℕ) → k < 8 → FourPairs (seen w16 c.plus-p0.result) (seen w16 c.plus-p1.result) (seen w16 c.plus-p2.result) (seen w16 c.plus-p3.result) k
sums_in c k lt =
    let s = pairs c in
    record {
      at0 = pair_in (s.p0.at k lt) (in_line c.args.d.v0 k (c.requires 0 (omega arith)) lt) (in_line c.args.d.v7 k (c.requires 7 (omega arith)) lt);
      at1 = pair_in (s.p1.at k lt) (in_line c.args.d.v1 k (c.requires 1 (omega arith)) lt) (in_line c.args.d.v6 k (c.requires 6 (omega arith)) lt);
      at2 = pair_in (s.p2.at k lt) (in_line c.args.d.v2 k (c.requires 2 (omega arith)) lt) (in_line c.args.d.v5 k (c.requires 5 (omega arith)) lt);
      at3 = pair_in (s.p3.at k lt) (in_line c.args.d.v3 k (c.requires 3 (omega arith)) lt) (in_line c.args.d.v4 k (c.requires 4 (omega arith)) lt);
    }

pub plus-p0-requires : goal.plus-p0-requires
plus-p0-requires c = (line_seen (c.requires 0 (omega arith)), line_seen (c.requires 7 (omega arith)))

pub plus-p1-requires : goal.plus-p1-requires
plus-p1-requires c = (line_seen (c.requires 1 (omega arith)), line_seen (c.requires 6 (omega arith)))

pub plus-p2-requires : goal.plus-p2-requires
plus-p2-requires c = (line_seen (c.requires 2 (omega arith)), line_seen (c.requires 5 (omega arith)))

pub plus-p3-requires : goal.plus-p3-requires
plus-p3-requires c = (line_seen (c.requires 3 (omega arith)), line_seen (c.requires 4 (omega arith)))

pub minus-m0-requires : goal.minus-m0-requires
minus-m0-requires c = (line_seen (c.requires 0 (omega arith)), line_seen (c.requires 7 (omega arith)))

pub minus-m1-requires : goal.minus-m1-requires
minus-m1-requires c = (line_seen (c.requires 1 (omega arith)), line_seen (c.requires 6 (omega arith)))

pub minus-m2-requires : goal.minus-m2-requires
minus-m2-requires c = (line_seen (c.requires 2 (omega arith)), line_seen (c.requires 5 (omega arith)))

pub minus-m3-requires : goal.minus-m3-requires
minus-m3-requires c = (line_seen (c.requires 3 (omega arith)), line_seen (c.requires 4 (omega arith)))

pub even-e-requires-clause-lanes : goal.even-e-requires-clause-lanes
even-e-requires-clause-lanes c = let s = pairs (goal.at.even-e-requires-clause-lanes c).After-minus-m3 in (s.p0.all, s.p1.all, s.p2.all, s.p3.all)

pub even-e-requires-clause-sums : goal.even-e-requires-clause-sums
even-e-requires-clause-sums c = λ k lt. sum_room (sums_in (goal.at.even-e-requires-clause-sums c).After-minus-m3 k lt)

pub even-e-requires-clause-gaps : goal.even-e-requires-clause-gaps
even-e-requires-clause-gaps c = λ k lt. gap_room (sums_in (goal.at.even-e-requires-clause-gaps c).After-minus-m3 k lt)

pub odd-o-requires : goal.odd-o-requires
odd-o-requires c = let s = pairs (goal.at.odd-o-requires c).After-minus-m3 in (s.m0.all, s.m1.all, s.m2.all, s.m3.all)

pub returns-clause-all : goal.returns-clause-all
returns-clause-all c =
    each_of_eight (λ u xs. IsEight 8192 xs)
    (seen_eight16 (omega arith) c.even-e.ensures.all.at0)
    (seen_eight16 (omega arith) c.odd-o.ensures.all.at3)
    (seen_eight16 (omega arith) c.even-e.ensures.all.at1)
    (seen_eight16 (omega arith) c.odd-o.ensures.all.at2)
    (seen_eight16 (omega arith) c.even-e.ensures.all.at2)
    (seen_eight16 (omega arith) c.odd-o.ensures.all.at1)
    (seen_eight16 (omega arith) c.even-e.ensures.all.at3)
    (seen_eight16 (omega arith) c.odd-o.ensures.all.at0)

pub returns-clause-at : goal.returns-clause-at
unfolding frequency_column woven even_frequencies odd_sums
returns-clause-at c = λ k lt. (
    let s = pairs (goal.at.returns-clause-at c).After-minus-m3 in
    let e : four_at c.even-e.result k ≡ map eighth (even_frequencies (number_at c.args.d.v0 k +ℤ number_at c.args.d.v7 k) (number_at c.args.d.v1 k +ℤ number_at c.args.d.v6 k) (number_at c.args.d.v2 k +ℤ number_at c.args.d.v5 k) (number_at c.args.d.v3 k +ℤ number_at c.args.d.v4 k)) =
    c.even-e.ensures.at k lt ∙ same4 (λ p q r s. map eighth (even_frequencies p q r s)) (s.p0.at k lt) (s.p1.at k lt) (s.p2.at k lt) (s.p3.at k lt) in
    let o : four_at c.odd-o.result k ≡ map eighth (odd_sums (number_at c.args.d.v0 k -ℤ number_at c.args.d.v7 k) (number_at c.args.d.v1 k -ℤ number_at c.args.d.v6 k) (number_at c.args.d.v2 k -ℤ number_at c.args.d.v5 k) (number_at c.args.d.v3 k -ℤ number_at c.args.d.v4 k)) =
    c.odd-o.ensures.at k lt ∙ same4 (λ p q r s. map eighth (odd_sums p q r s)) (s.m0.at k lt) (s.m1.at k lt) (s.m2.at k lt) (s.m3.at k lt) in
    eight
    (handed k c.even-e.ensures.all.at0 (ap (λ (l : List ℤ). number_at l 0) e))
    (handed k c.odd-o.ensures.all.at3 (ap (λ (l : List ℤ). number_at l 3) o))
    (handed k c.even-e.ensures.all.at1 (ap (λ (l : List ℤ). number_at l 1) e))
    (handed k c.odd-o.ensures.all.at2 (ap (λ (l : List ℤ). number_at l 2) o))
    (handed k c.even-e.ensures.all.at2 (ap (λ (l : List ℤ). number_at l 2) e))
    (handed k c.odd-o.ensures.all.at1 (ap (λ (l : List ℤ). number_at l 1) o))
    (handed k c.even-e.ensures.all.at3 (ap (λ (l : List ℤ). number_at l 3) e))
    (handed k c.odd-o.ensures.all.at0 (ap (λ (l : List ℤ). number_at l 0) o)))
