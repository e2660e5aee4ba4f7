use Rattle.std.proofs.Common.{ap, ◌∙◌}
use Rattle.std.specs.Prelude.{replicate}
use Rattle.jpg_spec.specs.Elements.{zeros}
use Rattle.jpg_spec.specs.Geometry.{padded_blocks}
use Rattle.jpg_coefs.specs.Picture.{Picture}
use Rattle.jpg_coefs.specs.Stored.{by_rows}
use Rattle.jpg_coefs.proofs.Stored.{zero_stored}
use Rattle.jpg_coefs.proofs.coefs.Coefs.clear.Goals as goal

pub returns-clause-zero : goal.returns-clause-zero
returns-clause-zero c =
    let i = c.self.inside in
    ap (by_rows i.frame i.layout.order) (c.clear.ensures ∙ ap (λ n. replicate n (zeros 64)) c.self.invariant.1)
    ∙ zero_stored i.frame i.layout.order
    ∙ ap (λ (p : Picture). replicate (padded_blocks p.frame) (zeros 64)) c.self.view_is
