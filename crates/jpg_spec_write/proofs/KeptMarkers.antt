-- The markers that are passed on, including a JFIF header and comments: their text, and that they break no rule. The
-- number that an input keeps.
use Rattle.std.proofs.Common.{◌≡◌, ℕ, ◌+◌, ◌<◌, List, [], ◌∷◌, ◌++◌, length, refl, sym, ap, ◌∙◌, subst}
use Rattle.std.specs.Prelude.{reverse}
use Rattle.std.proofs.lemmas.List.{append_assoc, append-nil, reverse-append}
use Rattle.std.proofs.lemmas.Grind.{flat_map-append}
use Rattle.jpg_spec.specs.Bits.{IsMarkerCode}
use Rattle.jpg_spec_write.specs.FileText.{segment_text, kept_text}
use Rattle.jpg_spec.specs.Markers.{Segment, soi, SpellsSegment, SpellsSegments}
use Rattle.jpg_spec.proofs.Segments.KeptMarkers.{ArePassedOn}

-- A SEGMENT that is written spells itself
pub text_spells : (code : ℕ) (contents : List ℕ) → IsMarkerCode code → length contents + 2 < 65536 → SpellsSegment code contents (segment_text code contents)
text_spells code contents m l = (255 ∷ code ∷ [], (0, refl, m), l, refl)

-- after other segments
pub text_after : (before : List Segment) (front : List ℕ) (code : ℕ) (contents : List ℕ) → SpellsSegments before front → IsMarkerCode code → (code ≡ 0xd9 → ⊥) → length contents + 2 < 65536
    → SpellsSegments ((code, contents) ∷ before) (front ++ segment_text code contents)
text_after before front code contents s m n l = (front, segment_text code contents, refl, s, text_spells code contents m l, n)

-- their text, the oldest first
pub kept_spelled : (before : List Segment) → ArePassedOn before → SpellsSegments before (soi ++ kept_text (reverse before))
unfolding ArePassedOn
kept_spelled [] are = refl
kept_spelled (s ∷ before) are =
    let text = soi ++ kept_text (reverse before) in
    let joined : soi ++ kept_text (reverse (s ∷ before)) ≡ text ++ segment_text s.0 s.1 =
    ap (λ xs. soi ++ kept_text xs) (reverse-append (s ∷ []) before) ∙ ap (λ t. soi ++ t) (flat_map-append (λ (x : Segment). segment_text x.0 x.1) (reverse before) (s ∷ []))
    ∙ ap (λ t. soi ++ (kept_text (reverse before) ++ t)) (append-nil (segment_text s.0 s.1)) ∙ sym (append_assoc soi (kept_text (reverse before)) (segment_text s.0 s.1)) in
    subst (λ t. SpellsSegments (s ∷ before) t) (sym joined) (text_after before text s.0 s.1 (kept_spelled before are.2) are.0.marker are.0.eoi are.1)
