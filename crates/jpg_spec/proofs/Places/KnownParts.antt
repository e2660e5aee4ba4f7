-- The components of a scan that are in the frame.
use Rattle.std.proofs.Common.{◌≡◌, ℕ, suc, ◌+◌, ◌<◌, Bool, true, false, List, [], ◌∷◌, length, All, arith, get_or, refl, zero}
use Rattle.std.specs.Prelude.{◌||◌, ◌==◌, if◌then◌else◌}
use Rattle.std.specs.List.{AllByRecursion}
use Rattle.std.proofs.lemmas.List.Elements.{All-from_recursion}
use Rattle.jpg_spec.specs.Lists.{is_among, index_of}
use Rattle.jpg_spec.specs.Geometry.{Frame}
use Rattle.jpg_spec.specs.FrameHeader.{identifiers}
use Rattle.jpg_spec.specs.ScanContents.{are_among, parsed_ids, parsed_parts}
use Rattle.jpg_spec.specs.declared.frame.Component.{Component}
use Rattle.jpg_spec.specs.declared.frame.ScanPart.{ScanPart}
use Rattle.jpg_spec.proofs.Basics.Common.{both}

one_more : (is_first more : Bool) (n count : ℕ) → (is_first || more) ≡ true → (more ≡ true → n < count) → (if is_first then 0 else 1 + n) < suc count
one_more true more n count e others = omega arith
one_more false more n count e others = omega (arith, others e)

place_below : (id : ℕ) (components : List Component) → is_among id (identifiers components) ≡ true → index_of id (identifiers components) < length components
place_below id [] e = absurd cc
place_below id (c ∷ components) e =
    one_more (c.id == id) (is_among id (identifiers components)) (index_of id (identifiers components)) (length components) e (place_below id components)

each_below : (f : Frame) (bytes : List ℕ) → are_among f (parsed_ids bytes) ≡ true → AllByRecursion (λ p. p.component < length f.components) (parsed_parts f bytes)
each_below f [] e = tt
each_below f (id ∷ []) e = tt
each_below f (id ∷ slots ∷ bytes) e =
    let split = both (is_among id (identifiers f.components)) (are_among f (parsed_ids bytes)) e in
    (place_below id f.components split.0, each_below f bytes split.1)

pub parts_below : (f : Frame) (bytes : List ℕ) → are_among f (parsed_ids bytes) ≡ true → All (λ p. p.component < length f.components) (parsed_parts f bytes)
parts_below f bytes e = All-from_recursion (λ (p : ScanPart). p.component < length f.components) (parsed_parts f bytes) (each_below f bytes e)

-- the default of a part that isn't there doesn't matter
pub part_same : (parts : List ScanPart) (j : ℕ) (d e : ScanPart) → j < length parts → get_or parts j d ≡ get_or parts j e
part_same [] j d e h = absurd (omega arith)
part_same (p ∷ parts) zero d e h = refl
part_same (p ∷ parts) (suc j) d e h = part_same parts j d e (omega arith)
