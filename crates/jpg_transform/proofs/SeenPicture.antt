-- What contracts see of the meaning of a picture that was read.
use Rattle.std.proofs.Common.{◌≡◌, ℕ, List, length, map, refl, ap, ◌∙◌}
use Rattle.std.proofs.lemmas.List.{length-map}
use Rattle.jpg_spec.specs.Geometry.{Frame, component_at}
use Rattle.jpg_spec.specs.Meaning.{Meaning, PictureComponent}
use Rattle.jpg_spec.specs.Segments.{QuantTable}
use Rattle.jpg_spec.specs.Lists.{below}
use Rattle.jpg_spec.specs.Grids.{Grids, frame_grids, picture_grids}
use Rattle.jpg_spec.proofs.Headers.FrameFound.{factor_across, factor_down}
use Rattle.jpg_spec.proofs.Basics.Rows.{by_items, map_map}
use Rattle.jpg_coefs.specs.Picture.{map_of}
use Rattle.jpg_file.specs.Read.PictureKept.{component_view}
use Rattle.jpg_file.specs.Read.PictureRead.{picture_meaning}
use Rattle.jpg_file.specs.declared.read.picture.Picture.{Picture}
use Rattle.jpg_transform.specs.Places.{IsSeenAs}
use Rattle.jpg_spec_move.proofs.OutsideZeros.{real_true}

-- components with their tables have the grids of their frame
pub told_grids : (f : Frame) (tables : List QuantTable) (M : Meaning) → M.width ≡ f.width → M.height ≡ f.height → M.components ≡ map (component_view f tables) (below (length f.components)) → picture_grids M ≡ frame_grids f
told_grids f tables M wide high told =
    let n = length f.components in
    let cs = map (component_view f tables) (below n) in
    let of : ℕ → ℕ → List ℕ → List ℕ → Grids = λ w h a d. record { width = w; height = h; across = a; down = d } in
    ap (λ w. of w M.height (map (λ c. c.h) M.components) (map (λ c. c.v) M.components)) wide
    ∙ ap (λ h. of f.width h (map (λ c. c.h) M.components) (map (λ c. c.v) M.components)) high
    ∙ ap (λ (xs : List PictureComponent). of f.width f.height (map (λ c. c.h) xs) (map (λ c. c.v) xs)) told
    ∙ ap (λ a. of f.width f.height a (map (λ c. c.v) cs))
    (map_map (λ c. c.h) (component_view f tables) (below n) ∙ by_items n (λ i. (component_at f i).h) (map (λ c. c.h) f.components) 1 (length-map f.components (λ c. c.h)) (λ i h. factor_across f i))
    ∙ ap (λ d. of f.width f.height (map (λ c. c.h) f.components) d)
    (map_map (λ c. c.v) (component_view f tables) (below n) ∙ by_items n (λ i. (component_at f i).v) (map (λ c. c.v) f.components) 1 (length-map f.components (λ c. c.v)) (λ i h. factor_down f i))

pub seen_grids : (p : Picture) → picture_grids (picture_meaning p) ≡ frame_grids p.frame
seen_grids p = told_grids p.frame p.quants.items (picture_meaning p) refl refl refl

pub seen_meaning : (p : Picture) → IsSeenAs (picture_meaning p) p.frame (map_of p.coefs)
seen_meaning p = record { grids = seen_grids p; same = λ i x y r. real_true p.frame (map_of p.coefs) i x y r }
