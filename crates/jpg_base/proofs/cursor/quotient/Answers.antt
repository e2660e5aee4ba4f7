use Rattle.std.proofs.Common.{rules, ◌<◌, ◌/◌, ◌^◌, subst, sym, arith, ℕ}
use Rattle.std.proofs.Math.Nat.{div-lt_iff_lt-mul}
use Rattle.jpg_base.proofs.cursor.quotient.Goals as goal

pub overflow_cast-result : goal.overflow_cast-result
overflow_cast-result c =
    let l : c.args.number / c.args.divisor < c.args.bound = (div-lt_iff_lt-mul c.requires.some).1 c.requires.below in
    let b : c.args.bound < 2 ^ 32 = search rules in
    let h : c.args.number / c.from.result < 2 ^ 32 = subst (λ (d : ℕ). c.args.number / d < 2 ^ 32) (sym c.from.ensures) (omega (arith, l, b)) in
    search (rules, h)

pub returns-clause-below : goal.returns-clause-below
returns-clause-below c = subst (λ (d : ℕ). c.args.number / d < c.args.bound) (sym c.from.ensures) ((div-lt_iff_lt-mul c.requires.some).1 c.requires.below)
