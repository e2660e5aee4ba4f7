use Rattle.std.proofs.Common.{rules, ℕ, ◌≡◌, List, ℤ, FitsSigned, ap, ◌∙◌, map}
use Rattle.std.specs.Int.{w64, int_wrap}
use Rattle.jpg_spec_image.specs.Dct.{joined_sums, line_sums, number_at, column_at, sample_row}
use Rattle.jpg_dct.proofs.Several.{eight, eight_of, on}
use Rattle.jpg_dct.proofs.Wrapped.{plain8}
use Rattle.jpg_dct.proofs.Samples.{one_sample64}
use Rattle.jpg_dct.proofs.inverse.wide.row.Goals as goal

pub returns-clause-value : goal.returns-clause-value
unfolding joined_sums sample_row
returns-clause-value c =
    let x : ℕ → ℤ = column_at c.args.done.now c.args.v in
    let f0 : FitsSigned w64 (column_at c.args.done.now c.args.v 0) = search rules in
    let f1 : FitsSigned w64 (column_at c.args.done.now c.args.v 1) = search rules in
    let f2 : FitsSigned w64 (column_at c.args.done.now c.args.v 2) = search rules in
    let f3 : FitsSigned w64 (column_at c.args.done.now c.args.v 3) = search rules in
    let f4 : FitsSigned w64 (column_at c.args.done.now c.args.v 4) = search rules in
    let f5 : FitsSigned w64 (column_at c.args.done.now c.args.v 5) = search rules in
    let f6 : FitsSigned w64 (column_at c.args.done.now c.args.v 6) = search rules in
    let f7 : FitsSigned w64 (column_at c.args.done.now c.args.v 7) = search rules in
    let sums : List ℤ = on line_sums (eight_of (x 0) (x 1) (x 2) (x 3) (x 4) (x 5) (x 6) (x 7)) in
    let is : c.line-e.result ≡ map (int_wrap w64) sums =
    c.line-e.ensures ∙ plain8 w64 (λ p0 p1 p2 p3 p4 p5 p6 p7. map (int_wrap w64) (line_sums p0 p1 p2 p3 p4 p5 p6 p7)) f0 f1 f2 f3 f4 f5 f6 f7
    in
    let at = λ (k : ℕ). ap (λ (l : List ℤ). number_at l k) is in
    eight
    (one_sample64 (number_at sums 0) (at 0) c.sample-s0.ensures)
    (one_sample64 (number_at sums 1) (at 1) c.sample-s1.ensures)
    (one_sample64 (number_at sums 2) (at 2) c.sample-s2.ensures)
    (one_sample64 (number_at sums 3) (at 3) c.sample-s3.ensures)
    (one_sample64 (number_at sums 4) (at 4) c.sample-s4.ensures)
    (one_sample64 (number_at sums 5) (at 5) c.sample-s5.ensures)
    (one_sample64 (number_at sums 6) (at 6) c.sample-s6.ensures)
    (one_sample64 (number_at sums 7) (at 7) c.sample-s7.ensures)
