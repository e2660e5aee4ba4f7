-- THE FRONT OF A FILE that shows its first scans: the bytes up to the marker after the data of a scan (T.81, B.1.1.2,
-- B.2.1, G.1.1.1). A preview of the scans shows what the front means as a file that ends early.
use Rattle.std.specs.Prelude.{◌≡◌, ◌⊎◌, ℕ, suc, ◌<◌, ◌≤◌, true, false, List, [], ◌∷◌, ◌++◌, length, take}
use Rattle.jpg_spec.specs.Markers.{SpellsMarker, is_within}
use Rattle.jpg_spec.specs.InForce.{frame_of}
use Rattle.jpg_spec.specs.History.{is_complete}
use Rattle.jpg_spec.specs.Items.{Item, segment, scan, segments_of, ends_in_scan}
use Rattle.jpg_spec.specs.FirstFault.{AfterItems}
use Rattle.jpg_spec.specs.declared.frame.Limits.{Limits}

-- how many of the items are scans
abbrev pub scans_in : List Item → ℕ
scans_in [] = 0
scans_in (segment code contents ∷ before) = scans_in before
scans_in (scan contents intervals ∷ before) = suc (scans_in before)

-- The bytes are complete items that break no rule, the last of them a scan, and then the marker that ends its data (no
-- RST, which is between intervals). The items have at least this many scans, and each component of the frame is in one.
pub record EndsScan (limits : Limits) (scans : ℕ) (bytes : List ℕ) : Type 0 where
  pub items : List Item
  pub code : ℕ
  pub marker : List ℕ
  pub behind : AfterItems limits bytes items marker
  pub last : ends_in_scan items ≡ true
  pub spelled : SpellsMarker code marker
  pub other : is_within 0xd0 0xd7 code ≡ false
  pub enough : scans ≤ scans_in items
  pub named : is_complete (frame_of limits (segments_of items)) (segments_of items) ≡ true

-- Fewer than so many first bytes don't end so.
abbrev pub EndsNotBefore : Limits → ℕ → List ℕ → ℕ → Type 0
EndsNotBefore limits scans bytes n = (m : ℕ) → m < n → EndsScan limits scans (take m bytes) → ⊥

-- The bytes begin with this front, the shortest that ends so.
pub record BeginsWith (limits : Limits) (scans : ℕ) (bytes front : List ℕ) : Type 0 where
  pub rest : List ℕ
  pub cut : bytes ≡ front ++ rest
  pub ends : EndsScan limits scans front
  pub first : EndsNotBefore limits scans bytes (length front)

-- THE FRONT for this many scans: the shortest such prefix; or all bytes, where there is none.
abbrev pub IsFront : Limits → ℕ → List ℕ → List ℕ → Type 0
IsFront limits scans bytes front = BeginsWith limits scans bytes front ⊎ ((front ≡ bytes) × EndsNotBefore limits scans bytes (suc (length bytes)))
