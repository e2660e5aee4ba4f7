use Rattle.std.proofs.Common.{ap, refl, subst}
use Rattle.jpg_color.specs.Shown.{IsPushed, ShownState, at_top, zero_row}
use Rattle.jpg_color.specs.StripImage.{Drawing}
use Rattle.jpg_color.proofs.Drawn.{draws_row}
use Rattle.jpg_color.proofs.decode.strip_image.StripImage.push_zero.Goals as goal

pub returns : goal.returns
returns g c =
    let same = ap (λ (d : Drawing). d.strips) c.self.view_is in
    draws_row c.self.view_is c.requires.due c.requires.end
    (subst (λ (s : ShownState). IsPushed c.self.inside.strips at_top (zero_row s.display) c.push_zero.new.self) same c.push_zero.ensures) c.send_ready.ensures.sends refl
