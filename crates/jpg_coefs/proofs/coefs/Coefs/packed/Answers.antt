use Rattle.std.proofs.Common.{ap, ◌∙◌}
use Rattle.std.specs.Prelude.{replicate}
use Rattle.jpg_spec.specs.Elements.{zeros}
use Rattle.jpg_spec.specs.Geometry.{Frame}
use Rattle.jpg_coefs.specs.Stored.{by_rows}
use Rattle.jpg_coefs.proofs.Stored.{zero_stored}
use Rattle.jpg_coefs.proofs.coefs.Coefs.packed.Goals as goal

pub returns-clause-zero : goal.returns-clause-zero
returns-clause-zero c =
    let order = c.new-count.result.0.order in
    ap (λ (f : Frame). by_rows f order c.in_ok-blocks.blocks) c.copy.ensures
    ∙ ap (by_rows c.args.frame.now order) (c.in_ok-blocks.ensures ∙ ap (λ n. replicate n (zeros 64)) c.new-count.ensures.count)
    ∙ zero_stored c.args.frame.now order
