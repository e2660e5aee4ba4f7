use Rattle.std.proofs.Common.{◌≡◌, ◌+◌, ◌*◌, sym, ◌∙◌, arith}
use Rattle.jpg_spec_image.specs.Dct.{number_at}
use Rattle.jpg_dct.specs.Eights.{IsEight}
use Rattle.jpg_dct.proofs.Several.{each_of_eight}
use Rattle.jpg_dct.proofs.Eights.{more_eight, seen_eight16}
use Rattle.jpg_dct.proofs.ShortBlocks.{passed}
use Rattle.jpg_dct.proofs.inverse.short.upper_rows.Goals as goal

pub returns-clause-all : goal.returns-clause-all
returns-clause-all c =
    let zero = more_eight (omega arith) (seen_eight16 (omega arith) c.none-zero.ensures.all) in
    each_of_eight (λ v xs. IsEight 1090 xs)
    (seen_eight16 (omega arith) c.row-v0.ensures.all)
    (seen_eight16 (omega arith) c.row-v1.ensures.all)
    (seen_eight16 (omega arith) c.row-v2.ensures.all)
    (seen_eight16 (omega arith) c.row-v3.ensures.all)
    zero zero zero zero

pub returns-clause-at : goal.returns-clause-at
returns-clause-at c = λ u v lu lv.
    each_of_eight (λ v xs. number_at xs u ≡ number_at c.args.values.now (8 * v + u))
    (passed u (omega arith) c.row-v0.ensures.all (c.row-v0.ensures.at u lu))
    (passed u (omega arith) c.row-v1.ensures.all (c.row-v1.ensures.at u lu))
    (passed u (omega arith) c.row-v2.ensures.all (c.row-v2.ensures.at u lu))
    (passed u (omega arith) c.row-v3.ensures.all (c.row-v3.ensures.at u lu))
    (passed u (omega arith) c.none-zero.ensures.all (c.none-zero.ensures.at u lu ∙ sym (c.requires.corner.below u 4 lu (omega arith) (omega arith))))
    (passed u (omega arith) c.none-zero.ensures.all (c.none-zero.ensures.at u lu ∙ sym (c.requires.corner.below u 5 lu (omega arith) (omega arith))))
    (passed u (omega arith) c.none-zero.ensures.all (c.none-zero.ensures.at u lu ∙ sym (c.requires.corner.below u 6 lu (omega arith) (omega arith))))
    (passed u (omega arith) c.none-zero.ensures.all (c.none-zero.ensures.at u lu ∙ sym (c.requires.corner.below u 7 lu (omega arith) (omega arith))))
    v lv
