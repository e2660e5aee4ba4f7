-- The beginning of a file that is written: its markers, its quantisation tables and its frame header, and what is in
-- force after them.
use Rattle.std.proofs.Common.{◌≡◌, ℕ, ◌+◌, ◌*◌, ◌/◌, ◌%◌, ◌<◌, ◌≤◌, true, cond, not, List, [], ◌∷◌, ◌++◌, length, refl, ap, ◌∙◌, arith, ◌==◌}
use Rattle.std.specs.Prelude.{map, flat_map, reverse, Ok}
use Rattle.std.specs.Int.{to_be_bytes, w16}
use Rattle.std.specs.List.{All}
use Rattle.std.proofs.lemmas.List.Elements.{All-head, All-tail}
use Rattle.jpg_spec.specs.Geometry.{Frame}
use Rattle.jpg_spec.specs.FrameHeader.{HasFactors, IsFrame, checked_frame}
use Rattle.jpg_spec.specs.FrameContents.{parsed_components, frame_header}
use Rattle.jpg_spec.specs.Segments.{two_bytes}
use Rattle.jpg_spec.specs.Meaning.{Meaning, PictureComponent}
use Rattle.jpg_spec.specs.QuantContents.{quant_tables}
use Rattle.jpg_spec.specs.HuffContents.{huffman_tables}
use Rattle.jpg_spec.specs.Markers.{Segment, is_frame_code}
use Rattle.jpg_spec.specs.InForce.{parsed_list, huffmans_defined, quants_defined}
use Rattle.jpg_spec_write.specs.FileText.{distinct_quants, slot_in, component_bytes, frame_of_meaning}
use Rattle.jpg_spec_write.specs.WrittenFile.{IsKeptMarker}
use Rattle.jpg_spec.specs.declared.fault.Fault.TheVariants.{BadLength}
use Rattle.jpg_spec.specs.declared.frame.Component.{Component}
use Rattle.jpg_spec.specs.declared.frame.Limits.{Limits}
use Rattle.jpg_spec.proofs.Segments.KeptMarkers.{ArePassedOn}
use Rattle.jpg_spec.proofs.Basics.Common.{both, negated, same_itself, not_refused}
use Rattle.jpg_spec.proofs.Writing.WrittenFront.{passed_on, marker_plain}

-- ITS HEADER encodes it

abbrev pub frame_component : Meaning → PictureComponent → Component
frame_component H c = record { id = c.id; h = c.h; v = c.v; quant = slot_in (distinct_quants H) c.quants }

abbrev pub frame_contents : Meaning → List ℕ
frame_contents H = H.precision ∷ to_be_bytes w16 H.height ++ to_be_bytes w16 H.width ++ length H.components ∷ flat_map (component_bytes H) H.components

components_again : (H : Meaning) (cs : List PictureComponent) → All HasFactors (map (frame_component H) cs) → parsed_components (flat_map (component_bytes H) cs) ≡ map (frame_component H) cs
components_again H [] all = refl
components_again H (c ∷ cs) all =
    let f = All-head HasFactors (frame_component H c) (map (frame_component H) cs) all in
    let h : (16 * c.h + c.v) / 16 ≡ c.h = omega (arith, f.v_high) in
    let v : (16 * c.h + c.v) % 16 ≡ c.v = omega (arith, f.v_high) in
    let slot = slot_in (distinct_quants H) c.quants in
    let later = parsed_components (flat_map (component_bytes H) cs) in
    ap (λ (n : ℕ). (let x : Component = record { id = c.id; h = n; v = (16 * c.h + c.v) % 16; quant = slot } in x ∷ later)) h
    ∙ ap (λ (n : ℕ). (let x : Component = record { id = c.id; h = c.h; v = n; quant = slot } in x ∷ later)) v
    ∙ ap (λ t. frame_component H c ∷ t) (components_again H cs (All-tail HasFactors (frame_component H c) (map (frame_component H) cs) all))

pub length_components : (H : Meaning) (cs : List PictureComponent) → length (flat_map (component_bytes H) cs) ≡ 3 * length cs
length_components H [] = refl
length_components H (c ∷ cs) = omega (arith, length_components H cs)

pub frame_told_is : (limits : Limits) (H : Meaning) → IsFrame (frame_of_meaning H) → checked_frame limits (frame_of_meaning H) ≡ Ok (frame_of_meaning H) → frame_header limits H.process (frame_contents H) ≡ Ok (frame_of_meaning H)
frame_told_is limits H is checked =
    let parts = flat_map (component_bytes H) H.components in
    let wide = is.width_high in
    let high = is.height_high in
    let h : two_bytes (H.height / 256 % 256) (H.height % 256) ≡ H.height = omega (arith, high) in
    let w : two_bytes (H.width / 256 % 256) (H.width % 256) ≡ H.width = omega (arith, wide) in
    let l : (length parts == 3 * length H.components) ≡ true = ap (λ n. n == 3 * length H.components) (length_components H H.components) ∙ same_itself (3 * length H.components) in
    let of : ℕ → ℕ → List Component → Frame = λ height width cs. record { process = H.process; precision = H.precision; width = width; height = height; components = cs } in
    not_refused BadLength (not (length parts == 3 * length H.components)) _ (ap not l)
    ∙ ap (λ n. checked_frame limits (of n (two_bytes (H.width / 256 % 256) (H.width % 256)) (parsed_components parts))) h
    ∙ ap (λ n. checked_frame limits (of H.height n (parsed_components parts))) w
    ∙ ap (λ cs. checked_frame limits (of H.height H.width cs)) (components_again H H.components is.factors) ∙ checked

pub frame_short : (H : Meaning) → length H.components ≤ 4 → length (frame_contents H) + 2 < 65536
frame_short H few = omega (arith, length_components H H.components, few)

pub markers_passed : (kept : List Segment) → All IsKeptMarker kept → ArePassedOn kept
unfolding ArePassedOn
markers_passed [] all = tt
markers_passed (s ∷ kept) all =
    let h = All-head IsKeptMarker s kept all in
    (passed_on s.0 h.0, h.1, markers_passed kept (All-tail IsKeptMarker s kept all))

-- kept markers define no tables
pub no_tables : (kept : List Segment) → All IsKeptMarker kept → (quants_defined kept ≡ []) × (huffmans_defined kept ≡ [])
no_tables [] all = (refl, refl)
no_tables (s ∷ kept) all =
    let h = All-head IsKeptMarker s kept all in
    let later = no_tables kept (All-tail IsKeptMarker s kept all) in
    let p = marker_plain s.0 h.0 in
    let a = both (not (is_frame_code s.0)) _ p in
    let b = both (not (s.0 == 0xda)) _ a.1 in
    let k = both (not (s.0 == 0xdd)) _ b.1 in
    let m = both (not (s.0 == 0xdb)) _ k.1 in
    let n = both (not (s.0 == 0xc4)) _ m.1 in (
      ap (λ t. cond t (reverse (parsed_list (quant_tables s.1))) [] ++ quants_defined kept) (negated (s.0 == 0xdb) m.0) ∙ later.0,
      ap (λ t. cond t (reverse (parsed_list (huffman_tables s.1))) [] ++ huffmans_defined kept) (negated (s.0 == 0xc4) n.0) ∙ later.1,
    )
