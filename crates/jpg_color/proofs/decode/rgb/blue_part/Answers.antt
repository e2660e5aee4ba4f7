use Rattle.std.proofs.Common.{rules, ◌≡◌, FitsSigned, to_z, of_z, ◌∙◌}
use Rattle.std.specs.Int.{w16}
use Rattle.std.proofs.lemmas.Int.{to_z-of_z}
use Rattle.jpg_color.proofs.Halves.{blue_is}
use Rattle.jpg_color.proofs.decode.rgb.blue_part.Goals as goal

pub returns-clause-value : goal.returns-clause-value
returns-clause-value c =
    let fit : FitsSigned w16 c.sum.result = search rules in
    let d : to_z w16 (of_z w16 c.args.d) ≡ c.args.d = to_z-of_z w16 c.args.d c.ranges.d in
    let t : to_z w16 (of_z w16 c.double-twice.result) ≡ c.double-twice.result = to_z-of_z w16 c.double-twice.result (search rules) in
    let u : to_z w16 (of_z w16 c.blue_upper-upper.result) ≡ c.blue_upper-upper.result = to_z-of_z w16 c.blue_upper-upper.result (search rules) in
    let h : to_z w16 (of_z w16 c.half-more.result) ≡ c.half-more.result = to_z-of_z w16 c.half-more.result (search rules) in
    to_z-of_z w16 c.sum.result fit ∙ blue_is c.args.d c.double-twice.result c.blue_upper-upper.result c.half-more.result c.sum.result (cc) (cc) (cc) (cc)
