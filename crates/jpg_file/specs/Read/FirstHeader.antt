-- The first scan header of a file (T.81, B.2.1, B.2.3).
use Rattle.std.specs.Prelude.{◌≡◌, ℕ, ◌≤◌, false, List, length, take, reverse, Option, Some, None, option_map}
use Rattle.jpg_spec.specs.Geometry.{Frame}
use Rattle.jpg_spec.specs.FrameHeader.{identifiers}
use Rattle.jpg_spec.specs.Jfif.{adobe_transform, jfif_of}
use Rattle.jpg_spec.specs.declared.jfif.Jfif.{Jfif}
use Rattle.jpg_spec.specs.Colours.{colours_of}
use Rattle.jpg_spec.specs.Markers.{Segment, has_scan, kept_after}
use Rattle.jpg_spec.specs.InForce.{frame_of}
use Rattle.jpg_spec.specs.Items.{contents_rule}
use Rattle.jpg_spec.specs.Header.{IsHeader}
use Rattle.jpg_spec.specs.declared.frame.Colour.{Colour}
use Rattle.jpg_spec.specs.declared.frame.Limits.{Limits}
use Rattle.jpg_file.specs.Read.SegmentState.{SegmentView}
use Rattle.jpg_file.specs.declared.read.first_header.Head.{Head}

-- the colours of a frame with these kept markers
abbrev pub colours_by : Frame → Jfif → List Segment → Colour
colours_by f jfif kept = colours_of (length f.components) (identifiers f.components) jfif.seen (adobe_transform kept)

-- the head by what the segments so far define, ending at this place
abbrev pub first_header_of : SegmentView → ℕ → Option Head
first_header_of h at = option_map (λ f. record { frame = f; colour = colours_by f h.jfif h.kept; at = at }) h.frame

-- This many first bytes are the file's header, and the scan header that ends it breaks no rule. It has this frame and
-- these colours.
pub record IsFirstHeader (limits : Limits) (bytes : List ℕ) (h : Head) : Type 0 where
  pub before : List Segment
  pub contents : List ℕ
  pub within : h.at ≤ length bytes
  pub header : IsHeader limits (take h.at bytes) before contents
  pub unbroken : contents_rule limits before 0xda contents ≡ None
  pub frame : h.frame ≡ frame_of limits before
  pub colour : h.colour ≡ (let kept = reverse (kept_after before) in colours_by (frame_of limits before) (jfif_of kept) kept)

-- no first bytes are a header
abbrev pub HasNoHead : Limits → List ℕ → Type 0
HasNoHead limits bytes = (before : List Segment) (contents : List ℕ) (n : ℕ) → IsHeader limits (take n bytes) before contents → ⊥

-- It is the first scan header of these bytes, if they have one that breaks no rule.
abbrev pub IsFirstHeaderOf : Limits → List ℕ → Option Head → Type 0
IsFirstHeaderOf limits bytes None = HasNoHead limits bytes
IsFirstHeaderOf limits bytes (Some h) = IsFirstHeader limits bytes h

-- After these segments it is the first scan header of these bytes, if one was among them.
abbrev pub HasHead : Limits → List ℕ → List Segment → Option Head → Type 0
HasHead limits bytes before None = has_scan before ≡ false
HasHead limits bytes before (Some h) = IsFirstHeader limits bytes h
