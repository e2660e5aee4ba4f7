use Rattle.std.proofs.Common.{◌≡◌, ◌≤◌, ap, ◌∙◌, arith, rules}
use mir.Syntax.{w32}
use Rattle.std.proofs.lemmas.Int.{to_z-of_z}
use Rattle.jpg_spec.specs.Numbers.{digits, category}
use Rattle.jpg_prog_write.proofs.EndsItems.{some_bands, few_bands, ends_are}
use Rattle.jpg_prog_write.proofs.item.ends_item.Goals as goal

pub overflow_sub-size : goal.overflow_sub-size
overflow_sub-size c =
    let e : c.category-size.result ≡ digits c.args.bands = c.category-size.ensures.category ∙ ap category (to_z-of_z w32 c.from.result (search rules) ∙ c.from.ensures) in
    omega (arith, e, some_bands c.args.bands c.requires.some)

pub overflow_mul-result : goal.overflow_mul-result
overflow_mul-result c =
    let e : c.category-size.result ≡ digits c.args.bands = c.category-size.ensures.category ∙ ap category (to_z-of_z w32 c.from.result (search rules) ∙ c.from.ensures) in
    let few : c.category-size.result ≤ 15 = omega (arith, e, few_bands c.args.bands c.requires.few) in
    omega (arith, few)

pub returns : goal.returns
returns c =
    let e : c.category-size.result ≡ digits c.args.bands = c.category-size.ensures.category ∙ ap category (to_z-of_z w32 c.from.result (search rules) ∙ c.from.ensures) in
    ends_are c.args.bands c.category-size.result c.from-2.result c.requires.some c.requires.few e c.from-2.ensures
