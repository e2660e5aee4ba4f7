use Rattle.std.proofs.Common.{◌≡◌, ◌+◌, ◌*◌, ◌<◌, ℕ, arith}
use Rattle.jpg_spec_image.specs.Dct.{number_at}
use Rattle.jpg_dct.specs.Eights.{IsEight, vector, quotient_at}
use Rattle.jpg_dct.proofs.Eights.{seen_eight16}
use Rattle.jpg_dct.proofs.Several.{each_of_eight}
use Rattle.jpg_dct.proofs.EightQuotients.{row_of}
use Rattle.jpg_dct.proofs.forward.eight_quotients.divided_rows.Goals as goal

pub quotients-v0-requires-clause-lanes : goal.quotients-v0-requires-clause-lanes
quotients-v0-requires-clause-lanes c = seen_eight16 (omega arith) (c.requires.lanes 0 (omega arith))

pub quotients-v1-requires-clause-lanes : goal.quotients-v1-requires-clause-lanes
quotients-v1-requires-clause-lanes c = seen_eight16 (omega arith) (c.requires.lanes 1 (omega arith))

pub quotients-v2-requires-clause-lanes : goal.quotients-v2-requires-clause-lanes
quotients-v2-requires-clause-lanes c = seen_eight16 (omega arith) (c.requires.lanes 2 (omega arith))

pub quotients-v3-requires-clause-lanes : goal.quotients-v3-requires-clause-lanes
quotients-v3-requires-clause-lanes c = seen_eight16 (omega arith) (c.requires.lanes 3 (omega arith))

pub quotients-v4-requires-clause-lanes : goal.quotients-v4-requires-clause-lanes
quotients-v4-requires-clause-lanes c = seen_eight16 (omega arith) (c.requires.lanes 4 (omega arith))

pub quotients-v5-requires-clause-lanes : goal.quotients-v5-requires-clause-lanes
quotients-v5-requires-clause-lanes c = seen_eight16 (omega arith) (c.requires.lanes 5 (omega arith))

pub quotients-v6-requires-clause-lanes : goal.quotients-v6-requires-clause-lanes
quotients-v6-requires-clause-lanes c = seen_eight16 (omega arith) (c.requires.lanes 6 (omega arith))

pub quotients-v7-requires-clause-lanes : goal.quotients-v7-requires-clause-lanes
quotients-v7-requires-clause-lanes c = seen_eight16 (omega arith) (c.requires.lanes 7 (omega arith))

pub returns-clause-all : goal.returns-clause-all
returns-clause-all c =
    each_of_eight (λ v xs. IsEight 16384 xs)
    (seen_eight16 (omega arith) c.quotients-v0.ensures.all)
    (seen_eight16 (omega arith) c.quotients-v1.ensures.all)
    (seen_eight16 (omega arith) c.quotients-v2.ensures.all)
    (seen_eight16 (omega arith) c.quotients-v3.ensures.all)
    (seen_eight16 (omega arith) c.quotients-v4.ensures.all)
    (seen_eight16 (omega arith) c.quotients-v5.ensures.all)
    (seen_eight16 (omega arith) c.quotients-v6.ensures.all)
    (seen_eight16 (omega arith) c.quotients-v7.ensures.all)

pub returns-clause-at : goal.returns-clause-at
returns-clause-at c = λ k v lk lv. (
    each_of_eight (λ v xs. (k : ℕ) → k < 8 → number_at xs k ≡ quotient_at (number_at (vector c.args.d v) k) c.args.halves.now c.args.factors.now c.args.scales.now (8 * v + k))
    (row_of c.args.d.v0 c.quotients-v0.result c.args.halves.now c.args.factors.now c.args.scales.now 0 (c.requires.lanes 0 (omega arith)) c.quotients-v0.ensures.all c.quotients-v0.ensures.at)
    (row_of c.args.d.v1 c.quotients-v1.result c.args.halves.now c.args.factors.now c.args.scales.now 1 (c.requires.lanes 1 (omega arith)) c.quotients-v1.ensures.all c.quotients-v1.ensures.at)
    (row_of c.args.d.v2 c.quotients-v2.result c.args.halves.now c.args.factors.now c.args.scales.now 2 (c.requires.lanes 2 (omega arith)) c.quotients-v2.ensures.all c.quotients-v2.ensures.at)
    (row_of c.args.d.v3 c.quotients-v3.result c.args.halves.now c.args.factors.now c.args.scales.now 3 (c.requires.lanes 3 (omega arith)) c.quotients-v3.ensures.all c.quotients-v3.ensures.at)
    (row_of c.args.d.v4 c.quotients-v4.result c.args.halves.now c.args.factors.now c.args.scales.now 4 (c.requires.lanes 4 (omega arith)) c.quotients-v4.ensures.all c.quotients-v4.ensures.at)
    (row_of c.args.d.v5 c.quotients-v5.result c.args.halves.now c.args.factors.now c.args.scales.now 5 (c.requires.lanes 5 (omega arith)) c.quotients-v5.ensures.all c.quotients-v5.ensures.at)
    (row_of c.args.d.v6 c.quotients-v6.result c.args.halves.now c.args.factors.now c.args.scales.now 6 (c.requires.lanes 6 (omega arith)) c.quotients-v6.ensures.all c.quotients-v6.ensures.at)
    (row_of c.args.d.v7 c.quotients-v7.result c.args.halves.now c.args.factors.now c.args.scales.now 7 (c.requires.lanes 7 (omega arith)) c.quotients-v7.ensures.all c.quotients-v7.ensures.at)
    v lv k lk)
