-- Markers that are kept: application data and comments (T.81, B.2.4.5, B.2.4.6).
use Rattle.std.specs.Prelude.{◌≡◌, ◌⊎◌, ℕ, zero, suc, ◌≤◌, ◌-◌, All, List, [], ◌∷◌, take, drop, length, slice_index_or, slice_set}
use Rattle.jpg_spec.specs.Segments.{two_bytes}
use Rattle.jpg_spec_write.specs.FileText.{kept_text}
use Rattle.jpg_markers.specs.declared.kept.Kept.{Kept}

-- APPn or COM
abbrev pub IsKeptCode : ℕ → Type 0
IsKeptCode code = ((0xe0 ≤ code) × (code ≤ 0xef)) ⊎ (code ≡ 0xfe)

-- the code, and contents that a segment can have
pub record IsKeptSegment (code : ℕ) (contents : List ℕ) : Type 0 where
  pub coded : IsKeptCode code
  pub fits : length contents ≤ 65533

-- a member's code and contents
abbrev pub kept_pair : Kept → ℕ × List ℕ
kept_pair k = (k.code, k.contents.now)

-- KEPT MARKERS IN MEMORY are the bytes of their segments, one after another.

-- the segments that bytes begin with, at most n
abbrev pub segments_in : ℕ → List ℕ → List (ℕ × List ℕ)
segments_in zero bytes = []
segments_in (suc n) [] = []
segments_in (suc n) (mark ∷ []) = []
segments_in (suc n) (mark ∷ code ∷ []) = []
segments_in (suc n) (mark ∷ code ∷ high ∷ []) = []
segments_in (suc n) (mark ∷ code ∷ high ∷ low ∷ bytes) =
    let size = two_bytes high low - 2 in
    (code, take size bytes) ∷ segments_in n (drop size bytes)

abbrev pub segments_of : List ℕ → List (ℕ × List ℕ)
segments_of bytes = segments_in (length bytes) bytes

-- the bytes are those of segments that can be kept
pub record AreSegments (bytes : List ℕ) : Type 0 where
  pub spelled : kept_text (segments_of bytes) ≡ bytes
  pub kept : All (λ s. IsKeptSegment s.0 s.1) (segments_of bytes)

-- ONE SEGMENT among others, with a byte of its contents put at a place

abbrev pub segment_at : List (ℕ × List ℕ) → ℕ → ℕ × List ℕ
segment_at kept i = slice_index_or kept i (0, [])

abbrev pub with_byte_at : ℕ → ℕ → ℕ → List (ℕ × List ℕ) → List (ℕ × List ℕ)
with_byte_at i place value kept = let s = segment_at kept i in slice_set kept i (s.0, slice_set s.1 place value)
