use Rattle.std.proofs.Common.{ℕ, List, ◌<◌, slice_index_or, []}
use Rattle.jpg_dct.specs.Eights.{IsRow}
use Rattle.jpg_dct.proofs.Eights.{levels_are, levels_small}
use Rattle.jpg_dct.proofs.Several.{EightOf, each_of_eight, eight_of, listed}
use Rattle.jpg_dct.proofs.forward.sample_columns.levels.Goals as goal
use Rattle.jpg_dct.proofs.forward.sample_columns.levels.Goals.{After-row-r7}

-- the eight rows
abbrev rows : (c : After-row-r7) → EightOf (List ℕ)
rows c = eight_of c.row-r0.result c.row-r1.result c.row-r2.result c.row-r3.result c.row-r4.result c.row-r5.result c.row-r6.result c.row-r7.result

are_rows : (c : After-row-r7) → (v : ℕ) → v < 8 → IsRow c.args.s.now v (slice_index_or (listed (rows c)) v [])
are_rows c =
    each_of_eight (λ v r. IsRow c.args.s.now v r) c.row-r0.ensures c.row-r1.ensures c.row-r2.ensures c.row-r3.ensures
    c.row-r4.ensures c.row-r5.ensures c.row-r6.ensures c.row-r7.ensures

pub returns-clause-all : goal.returns-clause-all
returns-clause-all c =
    let d = (goal.at.returns-clause-all c).After-row-r7 in
    levels_small c.args.s.now (listed (rows d)) (are_rows d)

pub returns-clause-at : goal.returns-clause-at
returns-clause-at c =
    let d = (goal.at.returns-clause-at c).After-row-r7 in
    levels_are c.args.s.now (listed (rows d)) (are_rows d)
