use Rattle.std.proofs.Common.{◌≡◌, ℕ, ◌<◌, ◌≤◌, nat_abs, subst, sym, ◌∙◌, arith}
use Rattle.jpg_spec_image.specs.Dct.{number_at}
use Rattle.jpg_dct.specs.Eights.{IsEight, vector}
use Rattle.jpg_dct.proofs.Several.{each_of_eight}
use Rattle.jpg_dct.proofs.Eights.{more_eight, seen_eight16}
use Rattle.jpg_dct.proofs.ShortBlocks.{passed}
use Rattle.jpg_dct.proofs.inverse.short.left_turned.Goals as goal
use Rattle.jpg_dct.proofs.inverse.short.left_turned.Goals.{After-turned-t}

small : (c : After-turned-t) → (u : ℕ) → u < 8 → IsEight 32767 (vector c.turned-t.result u)
small c u lu = record {
  long = c.turned-t.ensures.long u lu;
  small = λ v lv. subst (λ x. nat_abs x ≤ 32767) (sym (c.turned-t.ensures.at v u lv lu)) ((c.requires.small v lv).small u lu);
}

pub turned-t-requires : goal.turned-t-requires
turned-t-requires c = c.requires.small

pub returns-clause-all : goal.returns-clause-all
returns-clause-all c =
    let d = (goal.at.returns-clause-all c).After-turned-t in
    let zero = more_eight (omega arith) (seen_eight16 (omega arith) c.none-zero.ensures.all) in
    each_of_eight (λ v xs. IsEight 32767 xs)
    (seen_eight16 (omega arith) (small d 0 (omega arith)))
    (seen_eight16 (omega arith) (small d 1 (omega arith)))
    (seen_eight16 (omega arith) (small d 2 (omega arith)))
    (seen_eight16 (omega arith) (small d 3 (omega arith)))
    zero zero zero zero

pub returns-clause-at : goal.returns-clause-at
returns-clause-at c = λ u v lu lv. (
    let d = (goal.at.returns-clause-at c).After-turned-t in
    each_of_eight (λ u xs. number_at xs v ≡ number_at (vector c.args.d v) u)
    (passed v (omega arith) (small d 0 (omega arith)) (c.turned-t.ensures.at v 0 lv (omega arith)))
    (passed v (omega arith) (small d 1 (omega arith)) (c.turned-t.ensures.at v 1 lv (omega arith)))
    (passed v (omega arith) (small d 2 (omega arith)) (c.turned-t.ensures.at v 2 lv (omega arith)))
    (passed v (omega arith) (small d 3 (omega arith)) (c.turned-t.ensures.at v 3 lv (omega arith)))
    (passed v (omega arith) c.none-zero.ensures.all (c.none-zero.ensures.at v lv ∙ sym (c.requires.zero 4 v (omega arith) (omega arith) lv)))
    (passed v (omega arith) c.none-zero.ensures.all (c.none-zero.ensures.at v lv ∙ sym (c.requires.zero 5 v (omega arith) (omega arith) lv)))
    (passed v (omega arith) c.none-zero.ensures.all (c.none-zero.ensures.at v lv ∙ sym (c.requires.zero 6 v (omega arith) (omega arith) lv)))
    (passed v (omega arith) c.none-zero.ensures.all (c.none-zero.ensures.at v lv ∙ sym (c.requires.zero 7 v (omega arith) (omega arith) lv)))
    u lu)
