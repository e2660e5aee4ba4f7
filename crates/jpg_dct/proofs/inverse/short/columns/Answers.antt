use Rattle.std.specs.Int.{int_shr}
use Rattle.std.proofs.Common.{ℤ, List, ap, arith, ◌∙◌}
use Rattle.jpg_spec_image.specs.Dct.{number_at, joined_sums}
use Rattle.jpg_dct.specs.Eights.{IsEight}
use Rattle.jpg_dct.specs.Sums.{line_at}
use Rattle.jpg_dct.proofs.Several.{each_of_eight, eight}
use Rattle.jpg_dct.proofs.Eights.{more_eight, seen_eight16}
use Rattle.jpg_dct.proofs.ShortBlocks.{AreSmallSums, small_sums, line_bound, passed}
use Rattle.jpg_dct.proofs.inverse.short.columns.Goals as goal
use Rattle.jpg_dct.proofs.inverse.short.columns.Goals.{After-lines-s}

pub lines-s-requires : goal.lines-s-requires
lines-s-requires c = λ v lt. more_eight (omega arith) (c.requires v lt)

sums0 : (c : After-lines-s) → AreSmallSums (λ k. number_at (line_at c.args.d k) 0) c.lines-s.result.v0
unfolding joined_sums
sums0 c =
    small_sums (λ k. number_at (line_at c.args.d k) 0) c.lines-s.result.v0 c.lines-s.ensures.long.at0
    (λ k lt. ap (λ (l : List ℤ). number_at l 0) (c.lines-s.ensures.at k lt)) (λ k lt. (line_bound c.args.d k lt c.requires).at0)

sums1 : (c : After-lines-s) → AreSmallSums (λ k. number_at (line_at c.args.d k) 1) c.lines-s.result.v1
unfolding joined_sums
sums1 c =
    small_sums (λ k. number_at (line_at c.args.d k) 1) c.lines-s.result.v1 c.lines-s.ensures.long.at1
    (λ k lt. ap (λ (l : List ℤ). number_at l 1) (c.lines-s.ensures.at k lt)) (λ k lt. (line_bound c.args.d k lt c.requires).at1)

sums2 : (c : After-lines-s) → AreSmallSums (λ k. number_at (line_at c.args.d k) 2) c.lines-s.result.v2
unfolding joined_sums
sums2 c =
    small_sums (λ k. number_at (line_at c.args.d k) 2) c.lines-s.result.v2 c.lines-s.ensures.long.at2
    (λ k lt. ap (λ (l : List ℤ). number_at l 2) (c.lines-s.ensures.at k lt)) (λ k lt. (line_bound c.args.d k lt c.requires).at2)

sums3 : (c : After-lines-s) → AreSmallSums (λ k. number_at (line_at c.args.d k) 3) c.lines-s.result.v3
unfolding joined_sums
sums3 c =
    small_sums (λ k. number_at (line_at c.args.d k) 3) c.lines-s.result.v3 c.lines-s.ensures.long.at3
    (λ k lt. ap (λ (l : List ℤ). number_at l 3) (c.lines-s.ensures.at k lt)) (λ k lt. (line_bound c.args.d k lt c.requires).at3)

sums4 : (c : After-lines-s) → AreSmallSums (λ k. number_at (line_at c.args.d k) 4) c.lines-s.result.v4
unfolding joined_sums
sums4 c =
    small_sums (λ k. number_at (line_at c.args.d k) 4) c.lines-s.result.v4 c.lines-s.ensures.long.at4
    (λ k lt. ap (λ (l : List ℤ). number_at l 4) (c.lines-s.ensures.at k lt)) (λ k lt. (line_bound c.args.d k lt c.requires).at4)

sums5 : (c : After-lines-s) → AreSmallSums (λ k. number_at (line_at c.args.d k) 5) c.lines-s.result.v5
unfolding joined_sums
sums5 c =
    small_sums (λ k. number_at (line_at c.args.d k) 5) c.lines-s.result.v5 c.lines-s.ensures.long.at5
    (λ k lt. ap (λ (l : List ℤ). number_at l 5) (c.lines-s.ensures.at k lt)) (λ k lt. (line_bound c.args.d k lt c.requires).at5)

sums6 : (c : After-lines-s) → AreSmallSums (λ k. number_at (line_at c.args.d k) 6) c.lines-s.result.v6
unfolding joined_sums
sums6 c =
    small_sums (λ k. number_at (line_at c.args.d k) 6) c.lines-s.result.v6 c.lines-s.ensures.long.at6
    (λ k lt. ap (λ (l : List ℤ). number_at l 6) (c.lines-s.ensures.at k lt)) (λ k lt. (line_bound c.args.d k lt c.requires).at6)

sums7 : (c : After-lines-s) → AreSmallSums (λ k. number_at (line_at c.args.d k) 7) c.lines-s.result.v7
unfolding joined_sums
sums7 c =
    small_sums (λ k. number_at (line_at c.args.d k) 7) c.lines-s.result.v7 c.lines-s.ensures.long.at7
    (λ k lt. ap (λ (l : List ℤ). number_at l 7) (c.lines-s.ensures.at k lt)) (λ k lt. (line_bound c.args.d k lt c.requires).at7)

pub rounded-v0-requires : goal.rounded-v0-requires
rounded-v0-requires c = (sums0 (goal.at.rounded-v0-requires c).After-lines-s).all

pub rounded-v1-requires : goal.rounded-v1-requires
rounded-v1-requires c = (sums1 (goal.at.rounded-v1-requires c).After-lines-s).all

pub rounded-v2-requires : goal.rounded-v2-requires
rounded-v2-requires c = (sums2 (goal.at.rounded-v2-requires c).After-lines-s).all

pub rounded-v3-requires : goal.rounded-v3-requires
rounded-v3-requires c = (sums3 (goal.at.rounded-v3-requires c).After-lines-s).all

pub rounded-v4-requires : goal.rounded-v4-requires
rounded-v4-requires c = (sums4 (goal.at.rounded-v4-requires c).After-lines-s).all

pub rounded-v5-requires : goal.rounded-v5-requires
rounded-v5-requires c = (sums5 (goal.at.rounded-v5-requires c).After-lines-s).all

pub rounded-v6-requires : goal.rounded-v6-requires
rounded-v6-requires c = (sums6 (goal.at.rounded-v6-requires c).After-lines-s).all

pub rounded-v7-requires : goal.rounded-v7-requires
rounded-v7-requires c = (sums7 (goal.at.rounded-v7-requires c).After-lines-s).all

pub returns-clause-all : goal.returns-clause-all
returns-clause-all c =
    each_of_eight (λ v xs. IsEight 32767 xs)
    (seen_eight16 (omega arith) c.rounded-v0.ensures.all)
    (seen_eight16 (omega arith) c.rounded-v1.ensures.all)
    (seen_eight16 (omega arith) c.rounded-v2.ensures.all)
    (seen_eight16 (omega arith) c.rounded-v3.ensures.all)
    (seen_eight16 (omega arith) c.rounded-v4.ensures.all)
    (seen_eight16 (omega arith) c.rounded-v5.ensures.all)
    (seen_eight16 (omega arith) c.rounded-v6.ensures.all)
    (seen_eight16 (omega arith) c.rounded-v7.ensures.all)

pub returns-clause-at : goal.returns-clause-at
unfolding joined_sums
returns-clause-at c = λ k lt. (
    let d = (goal.at.returns-clause-at c).After-lines-s in
    eight
    (passed k (omega arith) c.rounded-v0.ensures.all (c.rounded-v0.ensures.at k lt ∙ ap (λ (z : ℤ). int_shr z 11) ((sums0 d).at k lt)))
    (passed k (omega arith) c.rounded-v1.ensures.all (c.rounded-v1.ensures.at k lt ∙ ap (λ (z : ℤ). int_shr z 11) ((sums1 d).at k lt)))
    (passed k (omega arith) c.rounded-v2.ensures.all (c.rounded-v2.ensures.at k lt ∙ ap (λ (z : ℤ). int_shr z 11) ((sums2 d).at k lt)))
    (passed k (omega arith) c.rounded-v3.ensures.all (c.rounded-v3.ensures.at k lt ∙ ap (λ (z : ℤ). int_shr z 11) ((sums3 d).at k lt)))
    (passed k (omega arith) c.rounded-v4.ensures.all (c.rounded-v4.ensures.at k lt ∙ ap (λ (z : ℤ). int_shr z 11) ((sums4 d).at k lt)))
    (passed k (omega arith) c.rounded-v5.ensures.all (c.rounded-v5.ensures.at k lt ∙ ap (λ (z : ℤ). int_shr z 11) ((sums5 d).at k lt)))
    (passed k (omega arith) c.rounded-v6.ensures.all (c.rounded-v6.ensures.at k lt ∙ ap (λ (z : ℤ). int_shr z 11) ((sums6 d).at k lt)))
    (passed k (omega arith) c.rounded-v7.ensures.all (c.rounded-v7.ensures.at k lt ∙ ap (λ (z : ℤ). int_shr z 11) ((sums7 d).at k lt))))
