use Rattle.std.proofs.Common.{◌≡◌, pos, sym, ap, ◌∙◌, subst, rules}
use mir.Syntax.{w32}
use mir.Val.{to_z, of_z}
use Rattle.std.proofs.lemmas.Int.{to_z-of_z}
use Rattle.jpg_spec.specs.Elements.{value}
use Rattle.jpg_prog_write.specs.Items.{IsItem}
use Rattle.jpg_prog_write.proofs.Values.{long_whole, value_whole}
use Rattle.jpg_prog_write.proofs.bands.newly_significant.Goals as goal

pub returns-then-value-ne0 : goal.returns-then-value-ne0
returns-then-value-ne0 c = λ bits later.
    value_whole c.args.run bits c.args.value later c.value_item.result (λ e. c.if-value-ne0.true (ap (of_z w32) e))
    (subst (λ v. IsItem (value c.args.run v bits) c.value_item.result bits) (to_z-of_z w32 c.args.value (search rules)) (c.value_item.ensures bits))

pub returns-then-run-eq15 : goal.returns-then-run-eq15
returns-then-run-eq15 c = λ bits later.
    let z : c.args.value ≡ pos 0 = sym (to_z-of_z w32 c.args.value (search rules)) ∙ ap (to_z w32) c.if-value-ne0.false in
    long_whole c.args.run bits c.args.value later c.long_item.result z c.if-run-eq15.true (c.long_item.ensures bits)
