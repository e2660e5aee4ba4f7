use Rattle.std.proofs.Common.{◌∙◌, List, ℤ, ap}
use Rattle.jpg_spec_image.specs.Dct.{number_at, joined_sums}
use Rattle.std.specs.Int.{w32}
use Rattle.jpg_dct.specs.Sums.{AreWords}
use Rattle.jpg_dct.proofs.Eights.{seen}
use Rattle.jpg_dct.proofs.LaneSamples.{words_of, words_seen}
use Rattle.jpg_dct.proofs.ShortBlocks.{RowSums, block_is}
use Rattle.jpg_dct.proofs.inverse.short.shown.Goals as goal
use Rattle.jpg_dct.proofs.inverse.short.shown.Goals.{After-lines-s}

words0 : (c : After-lines-s) → AreWords (seen w32 c.lines-s.result.v0)
unfolding joined_sums
words0 c = words_seen (words_of _ c.lines-s.ensures.long.at0 (λ k lt. ap (λ (l : List ℤ). number_at l 0) (c.lines-s.ensures.at k lt)))

words1 : (c : After-lines-s) → AreWords (seen w32 c.lines-s.result.v1)
unfolding joined_sums
words1 c = words_seen (words_of _ c.lines-s.ensures.long.at1 (λ k lt. ap (λ (l : List ℤ). number_at l 1) (c.lines-s.ensures.at k lt)))

words2 : (c : After-lines-s) → AreWords (seen w32 c.lines-s.result.v2)
unfolding joined_sums
words2 c = words_seen (words_of _ c.lines-s.ensures.long.at2 (λ k lt. ap (λ (l : List ℤ). number_at l 2) (c.lines-s.ensures.at k lt)))

words3 : (c : After-lines-s) → AreWords (seen w32 c.lines-s.result.v3)
unfolding joined_sums
words3 c = words_seen (words_of _ c.lines-s.ensures.long.at3 (λ k lt. ap (λ (l : List ℤ). number_at l 3) (c.lines-s.ensures.at k lt)))

words4 : (c : After-lines-s) → AreWords (seen w32 c.lines-s.result.v4)
unfolding joined_sums
words4 c = words_seen (words_of _ c.lines-s.ensures.long.at4 (λ k lt. ap (λ (l : List ℤ). number_at l 4) (c.lines-s.ensures.at k lt)))

words5 : (c : After-lines-s) → AreWords (seen w32 c.lines-s.result.v5)
unfolding joined_sums
words5 c = words_seen (words_of _ c.lines-s.ensures.long.at5 (λ k lt. ap (λ (l : List ℤ). number_at l 5) (c.lines-s.ensures.at k lt)))

words6 : (c : After-lines-s) → AreWords (seen w32 c.lines-s.result.v6)
unfolding joined_sums
words6 c = words_seen (words_of _ c.lines-s.ensures.long.at6 (λ k lt. ap (λ (l : List ℤ). number_at l 6) (c.lines-s.ensures.at k lt)))

words7 : (c : After-lines-s) → AreWords (seen w32 c.lines-s.result.v7)
unfolding joined_sums
words7 c = words_seen (words_of _ c.lines-s.ensures.long.at7 (λ k lt. ap (λ (l : List ℤ). number_at l 7) (c.lines-s.ensures.at k lt)))

pub samples-p0-requires : goal.samples-p0-requires
samples-p0-requires c = let d = (goal.at.samples-p0-requires c).After-lines-s in (words0 d, words1 d)

pub samples-p1-requires : goal.samples-p1-requires
samples-p1-requires c = let d = (goal.at.samples-p1-requires c).After-lines-s in (words2 d, words3 d)

pub samples-p2-requires : goal.samples-p2-requires
samples-p2-requires c = let d = (goal.at.samples-p2-requires c).After-lines-s in (words4 d, words5 d)

pub samples-p3-requires : goal.samples-p3-requires
samples-p3-requires c = let d = (goal.at.samples-p3-requires c).After-lines-s in (words6 d, words7 d)

pub block_of-requires : goal.block_of-requires
block_of-requires c = (c.samples-p0.ensures.long, c.samples-p1.ensures.long, c.samples-p2.ensures.long, c.samples-p3.ensures.long)

pub returns : goal.returns
returns c = λ values columns. (
    let sums : RowSums values c.args.across c.lines-s.result = record { columns_are = columns; long = c.lines-s.ensures.long; sums_are = c.lines-s.ensures.at } in
    c.block_of.ensures
    ∙ block_is c.samples-p0.result c.samples-p1.result c.samples-p2.result c.samples-p3.result sums
    (record { first = c.samples-p0.ensures.first; second = c.samples-p0.ensures.second })
    (record { first = c.samples-p1.ensures.first; second = c.samples-p1.ensures.second })
    (record { first = c.samples-p2.ensures.first; second = c.samples-p2.ensures.second })
    (record { first = c.samples-p3.ensures.first; second = c.samples-p3.ensures.second }))
