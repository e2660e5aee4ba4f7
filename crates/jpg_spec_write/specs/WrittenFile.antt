-- WHAT MAY BE WRITTEN: meanings with their headers, sequential scripts, and restarts (T.81, B.2, the manual of
-- jpegtran).
use Rattle.std.specs.Prelude.{◌≡◌, ℕ, ◌+◌, ◌<◌, ◌≤◌, Bool, true, false, not, nat_lt, nat_le, ◌&&◌, ◌||◌, ◌==◌, List, [], ◌∷◌, ◌++◌, length, reverse, Ok, All}
use Rattle.jpg_spec.specs.Lists.{any_of, all_of, is_among, is_distinct, below}
use Rattle.jpg_spec.specs.Geometry.{Frame, bounds, factor_sum, is_progressive, is_real, IsReal}
use Rattle.jpg_spec.specs.FrameHeader.{checked_frame}
use Rattle.jpg_spec.specs.Elements.{zeros, IsBlockIn}
use Rattle.jpg_spec.specs.Scan.{Blocks}
use Rattle.jpg_spec.specs.Markers.{Segment, is_within, kept_count}
use Rattle.jpg_spec.specs.Meaning.{Meaning, PictureComponent}
use Rattle.jpg_spec_write.specs.Script.{Entry}
use Rattle.jpg_spec.specs.Segments.{ScanHead, head_components, AreQuantisers}
use Rattle.jpg_spec.specs.ScanContents.{are_parameters}
use Rattle.jpg_spec.specs.History.{known_to, is_known_to, is_next}
use Rattle.jpg_spec_write.specs.FileText.{Restart, off, rows, mcus, frame_of_meaning, written_head}
use Rattle.jpg_spec.specs.declared.frame.Limits.{Limits}

abbrev pub HasQuants : PictureComponent → Type 0
HasQuants c = AreQuantisers c.quants

-- each real block is within the bounds of the frame
abbrev pub HasBlocksIn : Frame → Blocks → Type 0
HasBlocksIn f blocks = (i x y : ℕ) → IsReal f i x y → IsBlockIn (bounds f) (blocks i x y)

-- APPn or COM, within the length of a segment
abbrev pub IsKeptMarker : Segment → Type 0
IsKeptMarker s = ((s.0 == 0xfe || is_within 0xe0 0xef s.0) ≡ true) × (length s.1 + 2 < 65536)

-- A meaning whose numbers, tables, markers and blocks a file can have. Where there is no block, it has zeros.
pub record IsHeaded (limits : Limits) (H : Meaning) : Type 0 where
  pub frame : checked_frame limits (frame_of_meaning H) ≡ Ok (frame_of_meaning H)
  pub quants : All HasQuants H.components
  pub markers : All IsKeptMarker H.kept
  pub count : kept_count (reverse H.kept) ≤ limits.kept
  pub blocks : (i x y : ℕ) → i < length H.components → is_real (frame_of_meaning H) i x y ≡ true → IsBlockIn (bounds (frame_of_meaning H)) (H.blocks i x y)
  pub others : (i x y : ℕ) → (nat_lt i (length H.components) && is_real (frame_of_meaning H) i x y) ≡ false → H.blocks i x y ≡ zeros 64

-- SEQUENTIAL SCRIPTS: one to four distinct components, of at most ten blocks per MCU if there are several, none of them
-- in an earlier scan; and all at the end

abbrev pub is_sequential_entry : Frame → List ℕ → Entry → Bool
is_sequential_entry f done e =
    (nat_le 1 (length e.components) && nat_le (length e.components) 4)
    && (all_of (λ i. nat_lt i (length f.components)) e.components
    && (is_distinct e.components
    && (not (nat_lt 1 (length e.components) && nat_lt 10 (factor_sum f e.components)) && not (any_of (λ i. is_among i done) e.components))))

abbrev pub is_script_after : Frame → List ℕ → List Entry → Bool
is_script_after f done [] = all_of (λ i. is_among i done) (below (length f.components))
is_script_after f done (e ∷ script) = is_sequential_entry f done e && is_script_after f (e.components ++ done) script

-- PROGRESSIVE SCRIPTS: the same for components, a band and bits that the earlier scans admit; and all is known down to
-- bit 0 at the end

abbrev pub is_progressive_entry : Frame → List ScanHead → ScanHead → Bool
is_progressive_entry f heads head =
    (nat_le 1 (length head.parts) && nat_le (length head.parts) 4)
    && (all_of (λ i. nat_lt i (length f.components)) (head_components head)
    && (is_distinct (head_components head)
    && (not (nat_lt 1 (length head.parts) && nat_lt 10 (factor_sum f (head_components head)))
    && (are_parameters f (length head.parts) head && all_of (is_next heads head) (head_components head)))))

abbrev pub is_progressive_after : Meaning → List ScanHead → List Entry → Bool
is_progressive_after H heads [] = all_of (λ i. all_of (λ k. is_known_to (known_to heads i k) 0) (below 64)) (below (length H.components))
is_progressive_after H heads (e ∷ script) =
    is_progressive_entry (frame_of_meaning H) heads (written_head H e) && is_progressive_after H (written_head H e ∷ heads) script

-- a number of MCUs in two bytes
abbrev pub IsRestart : Restart → Type 0
IsRestart off = Unit {0}
IsRestart (rows n) = Unit {0}
IsRestart (mcus n) = n < 65536

-- FILES: a meaning in a script that takes all of its components

pub record IsSequentialFile (limits : Limits) (H : Meaning) (script : List Entry) : Type 0 where
  pub headed : IsHeaded limits H
  pub sequential : is_progressive H.process ≡ false
  pub passes : is_script_after (frame_of_meaning H) [] script ≡ true

pub record IsProgressiveFile (limits : Limits) (H : Meaning) (script : List Entry) : Type 0 where
  pub headed : IsHeaded limits H
  pub progressive : is_progressive H.process ≡ true
  pub passes : is_progressive_after H [] script ≡ true
