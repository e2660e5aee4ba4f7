use Rattle.std.proofs.Common.{◌≡◌, ◌+◌, ◌*◌, arith}
use Rattle.jpg_spec_image.specs.Dct.{number_at}
use Rattle.jpg_dct.specs.Eights.{IsEight}
use Rattle.jpg_dct.proofs.Several.{each_of_eight}
use Rattle.jpg_dct.proofs.Eights.{seen_eight16}
use Rattle.jpg_dct.proofs.ShortBlocks.{passed}
use Rattle.jpg_dct.proofs.inverse.short.rows.Goals as goal

pub returns-clause-all : goal.returns-clause-all
returns-clause-all c =
    each_of_eight (λ v xs. IsEight 1090 xs)
    (seen_eight16 (omega arith) c.row-v0.ensures.all)
    (seen_eight16 (omega arith) c.row-v1.ensures.all)
    (seen_eight16 (omega arith) c.row-v2.ensures.all)
    (seen_eight16 (omega arith) c.row-v3.ensures.all)
    (seen_eight16 (omega arith) c.row-v4.ensures.all)
    (seen_eight16 (omega arith) c.row-v5.ensures.all)
    (seen_eight16 (omega arith) c.row-v6.ensures.all)
    (seen_eight16 (omega arith) c.row-v7.ensures.all)

pub returns-clause-at : goal.returns-clause-at
returns-clause-at c = λ u v lu lv.
    each_of_eight (λ v xs. number_at xs u ≡ number_at c.args.values.now (8 * v + u))
    (passed u (omega arith) c.row-v0.ensures.all (c.row-v0.ensures.at u lu))
    (passed u (omega arith) c.row-v1.ensures.all (c.row-v1.ensures.at u lu))
    (passed u (omega arith) c.row-v2.ensures.all (c.row-v2.ensures.at u lu))
    (passed u (omega arith) c.row-v3.ensures.all (c.row-v3.ensures.at u lu))
    (passed u (omega arith) c.row-v4.ensures.all (c.row-v4.ensures.at u lu))
    (passed u (omega arith) c.row-v5.ensures.all (c.row-v5.ensures.at u lu))
    (passed u (omega arith) c.row-v6.ensures.all (c.row-v6.ensures.at u lu))
    (passed u (omega arith) c.row-v7.ensures.all (c.row-v7.ensures.at u lu))
    v lv
