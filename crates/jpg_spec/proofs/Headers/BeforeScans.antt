-- Segments with no scan among them: no scan header and no table of a component's first scan, and what they are as
-- items.
use Rattle.std.proofs.Common.{◌≡◌, ℕ, true, false, cond, List, [], ◌∷◌, refl, sym, ap, ◌∙◌, subst, None, ◌==◌}
use Rattle.jpg_spec.specs.Geometry.{Frame, component_at}
use Rattle.jpg_spec.specs.Markers.{Segment, SpellsSegments, Pass, code_fault, has_scan}
use Rattle.jpg_spec.specs.InForce.{first_some, frame_of, head_in, heads_of, quant_in_force}
use Rattle.jpg_spec.specs.History.{names, quant_of}
use Rattle.jpg_spec.specs.Items.{SpellsFront, fault_in, contents_rule}
use Rattle.jpg_spec.specs.ScanContents.{scan_header}
use Rattle.jpg_spec.specs.FileMeaning.{no_blocks, Leads}
use Rattle.jpg_spec.specs.Header.{header_rule}
use Rattle.jpg_spec.specs.declared.frame.Limits.{Limits}
use Rattle.jpg_spec.proofs.Headers.HeadersOnce.{items_of, segments_of_items}
use Rattle.jpg_spec.proofs.Basics.Common.{neither, same_itself}

pub no_heads : (f : Frame) (before : List Segment) → has_scan before ≡ false → heads_of f before ≡ []
no_heads f [] e = refl
no_heads f (s ∷ before) e =
    let k = neither (s.0 == 0xda) (has_scan before) e in
    ap (λ b. cond b (head_in f s.1 ∷ heads_of f before) (heads_of f before)) k.0 ∙ no_heads f before k.1

pub no_quant : (f : Frame) (before : List Segment) (i : ℕ) → has_scan before ≡ false → quant_of f before i ≡ None
no_quant f [] i e = refl
no_quant f (s ∷ before) i e =
    let k = neither (s.0 == 0xda) (has_scan before) e in
    ap (λ b. cond b (first_some (quant_of f before i) (cond (names (head_in f s.1) i) (quant_in_force before (component_at f i).quant) None)) (quant_of f before i)) k.0 ∙ no_quant f before i k.1

-- AS ITEMS

pub front_items : (before : List Segment) (bytes : List ℕ) → has_scan before ≡ false → SpellsSegments before bytes → SpellsFront (items_of before) bytes
front_items [] bytes none s = s
front_items (x ∷ before) bytes none s =
    let k = neither (x.0 == 0xda) (has_scan before) none in
    (s.0, s.1, s.2, front_items before s.0 k.1 s.3, (s.4, s.5, λ e. (let z : true ≡ false = sym (same_itself 0xda) ∙ ap (λ n. n == 0xda) (sym e) ∙ k.0 in let f : ⊥ = cc in f)))

-- they lead from no blocks to none
pub header_leads : (limits : Limits) (before : List Segment) → has_scan before ≡ false → Pass (header_rule limits) before → Leads limits (items_of before) no_blocks
header_leads limits [] none p = refl
header_leads limits (s ∷ before) none p =
    let k = neither (s.0 == 0xda) (has_scan before) none in
    let same = sym (segments_of_items before) in
    let rule : contents_rule limits before s.0 s.1 ≡ None =
    sym (ap (λ b. cond b (fault_in (scan_header (frame_of limits before) s.1)) (contents_rule limits before s.0 s.1)) k.0) ∙ p.1 in
    (subst (λ xs. code_fault xs s.0 ≡ None) same p.0, subst (λ xs. contents_rule limits xs s.0 s.1 ≡ None) same rule, header_leads limits before k.1 p.2)
