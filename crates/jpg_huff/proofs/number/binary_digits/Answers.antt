use Rattle.std.proofs.Common.{◌≡◌, ◌≤◌, ◌+◌, ◌*◌, ◌-◌, ap, ◌∙◌, subst, sym, rules}
use lib.Count.{count_leading_zeros}
use Rattle.jpg_spec.proofs.Basics.Small.{few_digits}
use Rattle.jpg_huff.proofs.Categories.{digits_counted}
use Rattle.jpg_huff.proofs.number.binary_digits.Goals as goal

pub returns-clause-digits : goal.returns-clause-digits
returns-clause-digits c = ap (λ n. 63 - count_leading_zeros 64 (2 * n + 1)) c.from.ensures ∙ digits_counted c.args.magnitude (search rules)

pub returns-clause-fits : goal.returns-clause-fits
returns-clause-fits c =
    let e = ap (λ n. 63 - count_leading_zeros 64 (2 * n + 1)) c.from.ensures ∙ digits_counted c.args.magnitude (search rules) in
    subst (λ n. n ≤ 32) (sym e) (few_digits 32 c.args.magnitude (search rules))
