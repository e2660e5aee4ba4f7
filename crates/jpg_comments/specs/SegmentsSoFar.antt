-- A file in part: the segments read so far (T.81, B.1.1.2 to B.1.1.4).
use Rattle.std.specs.Prelude.{◌≡◌, ◌⊎◌, ℕ, ◌≤◌, true, List, [], ◌∷◌, ◌++◌, length}
use Rattle.jpg_spec.specs.Markers.{Segment, Rule, kept_rule, is_frame_code, Between, BeginsSegment, PartOfSegment}
use Rattle.jpg_spec_write.specs.CommentText.{RevealsNothing, IsMarkerFault}
use Rattle.jpg_spec.specs.declared.fault.Fault.{Fault}
use Rattle.jpg_spec.specs.declared.fault.FaultAt.{FaultAt}
use Rattle.jpg_spec.specs.declared.frame.Limits.{Limits}
use Rattle.jpg_markers.specs.Reading.{Reading, RepresentsSegments, RevealsAfter}

-- These segments are complete, and the bytes after them begin one more, or are none.
abbrev pub IsBegun : Rule → List ℕ → List Segment → Type 0
IsBegun rule bytes before =
    ((before ≡ []) × ((bytes ≡ []) ⊎ (bytes ≡ 255 ∷ [])))
    ⊎ ((tail : List ℕ) × Between rule bytes before tail
    × (PartOfSegment before tail ⊎ ((code : ℕ) × BeginsSegment before code tail × (is_frame_code code ≡ true))))

-- These are the complete segments before the fault that the last of the bytes reveals, or of bytes that have none.
abbrev pub AreWholeBefore : Limits → List ℕ → Fault → List Segment → Type 0
AreWholeBefore limits bytes fault before = RevealsAfter (kept_rule limits) before fault bytes ⊎ IsBegun (kept_rule limits) bytes before

-- A reader was given these bytes, no prefix of which has a fault or is complete. The complete segments among them are
-- these.
pub record HasTaken (limits : Limits) (is_whole : List ℕ → Type 0) (bytes : List ℕ) (before : List Segment) (r : Reading) : Type 0 where
  pub stands : RepresentsSegments bytes before r
  pub limited : r.limits ≡ limits
  pub taken : r.taken ≡ length bytes
  pub most : r.taken ≤ limits.input
  pub nothing : RevealsNothing limits is_whole bytes

-- More text was appended, and this holds of it together with the text before.
abbrev pub Appends : (List ℕ → Type 0) → List ℕ → List ℕ → List ℕ → Type 0
Appends P text old new = (more : List ℕ) × (new ≡ old ++ more) × P (text ++ more)

-- The bytes show this fault, whatever follows them.
abbrev pub ShowsFault : Limits → (List ℕ → Type 0) → List ℕ → FaultAt → Type 0
ShowsFault limits is_whole bytes f = (rest : List ℕ) → IsMarkerFault limits is_whole (bytes ++ rest) f.fault f.at
