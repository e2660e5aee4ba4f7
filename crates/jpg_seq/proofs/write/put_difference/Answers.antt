use Rattle.std.proofs.Common.{◌<◌, ◌≤◌, ◌^◌, sym, subst, rules, arith, w32, to_z, of_z, to_z-of_z}
use Rattle.jpg_spec.specs.Numbers.{category}
use Rattle.jpg_seq.proofs.write.put_difference.Goals as goal
use Rattle.jpg_spec.proofs.Basics.Small.{apart_16}

pub put_code_after-requires-clause-extra : goal.put_code_after-requires-clause-extra
put_code_after-requires-clause-extra g c =
    let d = c.difference-value.result in
    let w = c.difference-value.ensures.within in
    let few : category (to_z w32 (of_z w32 d)) ≤ 16 = subst (λ v. category v ≤ 16) (sym (to_z-of_z {w = w32} {z = d} (search rules))) (apart_16 d w.0 w.1) in
    (omega (arith, few, c.category-size.ensures.category), subst (λ n. c.extra_bits.result < 2 ^ n) (sym c.category-size.ensures.category) c.extra_bits.ensures.fits)
