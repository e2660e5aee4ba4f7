use Rattle.std.proofs.Common.{ap, ◌∙◌}
use Rattle.jpg_color.specs.StripImage.{Drawing}
use Rattle.jpg_color.proofs.Drawn.{begins}
use Rattle.jpg_color.proofs.FirstPiece.{starts_short}
use Rattle.jpg_color.proofs.decode.strip_image.StripImage.start.Goals as goal

pub returns : goal.returns
returns g c = begins c.start_image.new.out _ c.start_image.result c.self.view_is c.checked.ensures c.requires.new c.requires.end c.start_image.ensures

pub invariant_of-self : goal.invariant_of-self
invariant_of-self g c =
    let told = c.self.invariant.0 in
    (told, starts_short _ c.self.inside.out c.self.inside.info c.start_image.result _ c.start_image.new.out told.valid (ap (λ (d : Drawing). d.out) c.self.view_is ∙ c.requires.new.out) c.start_image.ensures)
