use Rattle.std.proofs.Common.{◌∙◌, ap, subst, [], ◌∷◌, ◌++◌}
use Rattle.std.specs.Prelude.{Result, Ok}
use Rattle.jpg_coefs.specs.Machine.{Answered}
use Rattle.jpg_coefs.specs.declared.machine.UnitFault.{UnitFault}
use Rattle.jpg_coefs.specs.declared.machine.UnitStep.{UnitStep}
use Rattle.jpg_seq.specs.Reader.{sequential}
use Rattle.test_parts.proofs.scans.machine.one_bit.Goals as goal

pub returns-in-More : goal.returns-in-More
returns-in-More c =
    let o = c.requires in
    let A : Result UnitStep UnitFault → Type 0 = λ r. Answered sequential o.0 (o.1 ++ c.args.bit ∷ []) r c.args.coefs.now c.bit.new.self c.bit.new.coefs in
    (o.0, o.1 ++ c.args.bit ∷ [], subst A (c.in-Ok.is ∙ ap (λ x. Ok x) c.in-More.is) (c.bit.ensures o.0 o.1 o.2))
