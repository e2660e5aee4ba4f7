-- THE CURRENT PICTURE while a scan is read: it has what the intervals done encode, and all else is as before the scan
-- (T.81, B.1.1, E.1.4).
use Rattle.std.specs.Prelude.{◌≡◌, ℕ, ℤ, Bool, true, false, ◌≤◌, None, ◌==◌, ◌&&◌, List, [], ◌∷◌, ◌++◌, length, map, flat_map, nat_le}
use Rattle.jpg_spec.specs.Lists.{any_of, chunks, is_among, joined}
use Rattle.jpg_spec.specs.Elements.{SpellsUnits}
use Rattle.jpg_spec.specs.Scan.{Blocks, Scan, unit_at, band, block_at, SpellsIntervals, coefficient}
use Rattle.jpg_spec.specs.Geometry.{is_progressive}
use Rattle.jpg_spec.specs.Segments.{ScanHead, head_components}
use Rattle.jpg_spec.specs.InForce.{frame_of, head_in}
use Rattle.jpg_spec.specs.Items.{Item, segments_of, contents_rule}
use Rattle.jpg_spec.specs.FileMeaning.{Leads}
use Rattle.jpg_spec.specs.declared.frame.Limits.{Limits}
use Rattle.jpg_spec.specs.declared.frame.Place.{Place}

-- the place of a block
abbrev pub is_at : ℕ → ℕ → ℕ → Place → Bool
is_at i x y p = p.component == i && p.x == x && p.y == y

-- no block is at two of the places
abbrev pub AreDistinct : List Place → Type 0
AreDistinct [] = Unit {0}
AreDistinct (p ∷ places) = (any_of (is_at p.component p.x p.y) places ≡ false) × AreDistinct places

abbrev pub is_in_band : Scan → ℕ → Bool
is_in_band s k = nat_le s.ss k && nat_le k s.se

-- From one picture to another only some intervals' blocks change, and of these only the band.
pub record OnlyChanges (s : Scan) (places : List Place) (old new : Blocks) : Type 0 where
  pub elsewhere : (i x y : ℕ) → any_of (is_at i x y) places ≡ false → new i x y ≡ old i x y
  pub outside : (i x y k : ℕ) → is_in_band s k ≡ false → coefficient new i x y k ≡ coefficient old i x y k
  pub sizes : (i x y : ℕ) → length (new i x y) ≡ 64

-- An interval was read: these bits of its units encode what is in the picture now.
pub record IntervalRead (s : Scan) (places : List Place) (old new : Blocks) (bits : List Bool) : Type 0 where
  pub spelled : SpellsUnits s.coding (map (unit_at s old) places) (flat_map (λ p. band s (block_at new p)) places) bits
  pub changes : OnlyChanges s places old new

-- Some units of an interval were read, at these places: their values are there now.
pub record UnitsRead (s : Scan) (places : List Place) (old new : Blocks) (told : List ℤ) : Type 0 where
  pub told_there : told ≡ flat_map (λ p. band s (block_at new p)) places
  pub changes : OnlyChanges s places old new

-- At one place a block changed, only in its band.
pub record OneChanges (s : Scan) (p : Place) (old new : Blocks) : Type 0 where
  pub elsewhere : (i x y : ℕ) → is_at i x y p ≡ false → new i x y ≡ old i x y
  pub outside : (k : ℕ) → is_in_band s k ≡ false → coefficient new p.component p.x p.y k ≡ coefficient old p.component p.x p.y k
  pub size : length (block_at new p) ≡ 64

-- The scan's intervals so far were read, from the picture before the scan to the current one. These are left.
pub record ScanSoFar (s : Scan) (before work : Blocks) (done : List (List ℕ)) (left : List (List Place)) : Type 0 where
  pub front : List (List Place)
  pub cut : chunks s.interval s.places ≡ front ++ left
  pub spelled : SpellsIntervals s before work front done
  pub changes : OnlyChanges s (joined front) before work

-- A SCAN THAT MAY BEGIN after these items

abbrev pub head_behind : Limits → List Item → List ℕ → ScanHead
head_behind limits items contents = head_in (frame_of limits (segments_of items)) contents

-- with a place of one of its components
pub record BeginsScan (limits : Limits) (items : List Item) (blocks : Blocks) (contents : List ℕ) (p : Place) : Type 0 where
  pub leads : Leads limits items blocks
  pub allowed : contents_rule limits (segments_of items) 0xda contents ≡ None
  pub among : is_among p.component (head_components (head_behind limits items contents)) ≡ true

-- a progressive scan's first pass
pub record IsFirstPass (limits : Limits) (items : List Item) (contents : List ℕ) : Type 0 where
  pub progressive : is_progressive (frame_of limits (segments_of items)).process ≡ true
  pub first : (head_behind limits items contents).ah ≡ 0
  pub band : (head_behind limits items contents).se ≤ 63
