use Rattle.std.proofs.Common.{◌∷◌, sym, subst, rules}
use mir.Syntax.{w32}
use Rattle.std.proofs.lemmas.Int.{to_z-of_z}
use Rattle.jpg_spec_write.specs.Sending.{newly_significant}
use Rattle.jpg_prog_write.specs.Items.{sent_by}
use Rattle.jpg_prog_write.specs.Steps.{IsElementStep}
use Rattle.jpg_prog_write.proofs.bands.pass_value.Goals as goal

pub returns-in-NewlySignificant-clause-step : goal.returns-in-NewlySignificant-clause-step
returns-in-NewlySignificant-clause-step c = λ later.
    let bits = c.args.waiting.now.items in
    let step : IsElementStep c.args.run bits (newly_significant c.in-NewlySignificant.value ∷ later) c.newly_significant.result bits later =
    subst (λ v. IsElementStep c.args.run bits (newly_significant v ∷ later) c.newly_significant.result bits later) (to_z-of_z w32 c.in-NewlySignificant.value (search rules)) (c.newly_significant.ensures bits later) in
    subst (λ s. IsElementStep c.args.run bits (sent_by s ∷ later) c.newly_significant.result bits later) (sym c.in-NewlySignificant.is) step
