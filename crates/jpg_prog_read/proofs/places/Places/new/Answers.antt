use Rattle.std.proofs.Common.{◌∷◌, [], ◌≡◌, get_or, length, sym, ap, ◌∙◌}
use Rattle.std.specs.Prelude.{map}
use Rattle.jpg_spec.specs.Geometry.{units}
use Rattle.jpg_spec.specs.Segments.{ScanHead, head_components}
use Rattle.jpg_spec.specs.declared.frame.Grid.{Grid}
use Rattle.jpg_spec.specs.declared.frame.ScanPart.{ScanPart}
use Rattle.jpg_base.proofs.ScanPlaces.{only_one}
use Rattle.jpg_prog_read.specs.GridPlaces.{places_from}
use Rattle.jpg_prog_read.proofs.GridPlaces.{all_places}
use Rattle.jpg_prog_read.proofs.places.Places.new.Goals as goal

pub returns : goal.returns
returns c =
    let f = c.args.frame.now in
    let parts : c.args.head.now.parts ≡ c.deref.result.now = sym (c.deref.ensures.0 ∙ ap (λ (h : ScanHead). h.parts) c.head.view_is) in
    let d : ScanPart = record { component = 0; dc = 0; ac = 0 } in
    let i = (get_or c.deref.result.now 0 d).component in
    let one : length c.deref.result.now ≡ 1 = ap length (sym parts) ∙ c.requires.one in
    let comps : head_components c.args.head.now ≡ i ∷ [] = ap (map (λ (p : ScanPart). p.component)) parts ∙ only_one c.deref.result.now d one in
    ap (λ (g : Grid). places_from i g.wide g.high 0 0) c.blocks-grid.ensures.value ∙ all_places f i ∙ ap (units f) (sym comps)
