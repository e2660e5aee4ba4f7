use Rattle.std.proofs.Common.{rules, ◌≡◌, FitsSigned, to_z, of_z, ◌∙◌}
use Rattle.std.specs.Int.{w16, w32}
use Rattle.std.proofs.lemmas.Int.{to_z-of_z}
use Rattle.jpg_color.proofs.Halves.{green_is}
use Rattle.jpg_color.proofs.decode.rgb.green_part.Goals as goal

pub returns-clause-value : goal.returns-clause-value
returns-clause-value c =
    let fit : FitsSigned w16 c.less.result = search rules in
    let b : to_z w16 (of_z w16 c.args.b) ≡ c.args.b = to_z-of_z w16 c.args.b c.ranges.b in
    let r : to_z w16 (of_z w16 c.args.r) ≡ c.args.r = to_z-of_z w16 c.args.r c.ranges.r in
    let wide_b : to_z w32 (of_z w32 c.wide-wide_b.result) ≡ c.wide-wide_b.result = to_z-of_z w32 c.wide-wide_b.result (search rules) in
    let wide_r : to_z w32 (of_z w32 c.wide-wide_r.result) ≡ c.wide-wide_r.result = to_z-of_z w32 c.wide-wide_r.result (search rules) in
    let z : to_z w32 (of_z w32 c.green_sum-all.result) ≡ c.green_sum-all.result = to_z-of_z w32 c.green_sum-all.result (search rules) in
    let u : to_z w16 (of_z w16 c.upper_half-upper.result) ≡ c.upper_half-upper.result = to_z-of_z w16 c.upper_half-upper.result (search rules) in
    to_z-of_z w16 c.less.result fit ∙ green_is c.args.b c.args.r c.green_sum-all.result c.upper_half-upper.result c.less.result (cc) (cc) (cc)
