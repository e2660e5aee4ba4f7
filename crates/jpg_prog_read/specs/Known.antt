-- VALUES THAT ARE KNOWN DOWN TO A BIT (T.81, G.1.1.1.2).
use Rattle.std.specs.Prelude.{◌≡◌, ℕ, ◌+◌, ◌-◌, ◌*◌, ◌^◌, ◌≤◌, Bool, true, List, [], ◌∷◌, Option, Some, None, ℤ, pos, nat_abs}
use Rattle.jpg_spec.specs.Elements.{Coding, UnitLeft, SpellsUnits, old_values}
use Rattle.jpg_spec.specs.Geometry.{is_progressive}
use Rattle.jpg_spec.specs.Scan.{Blocks, Scan, coefficient}
use Rattle.jpg_spec.specs.InForce.{heads_of}
use Rattle.jpg_spec.specs.History.{known_to}
use Rattle.jpg_spec.specs.Items.{Item, segments_of}
use Rattle.jpg_spec.specs.FileMeaning.{Leads}
use Rattle.jpg_spec.specs.PictureInWork.{is_in_band}
use Rattle.jpg_spec.specs.Laws.{frame_of_items}
use Rattle.jpg_spec.specs.declared.frame.Limits.{Limits}
use Rattle.jpg_spec.specs.declared.frame.Place.{Place}
use Rattle.jpg_prog_read.specs.RepresentsAcScan.{HasCorrectionRoom}

abbrev pub IsMultiple : ℕ → ℤ → Type 0
IsMultiple al v = (m : ℕ) × (nat_abs v ≡ m * 2 ^ al)

abbrev pub AreMultiples : ℕ → List ℤ → Type 0
AreMultiples al [] = Unit {0}
AreMultiples al (v ∷ vs) = IsMultiple al v × AreMultiples al vs

-- Elements of this coding decode to multiples of 2 ^ al, if the values before them were multiples of 2 ^ (al + 1).
abbrev pub TellsMultiples : Coding → Type 0
TellsMultiples c =
    (units : List UnitLeft) (told : List ℤ) (bits : List Bool)
    → AreMultiples (c.al + 1) (old_values units) → SpellsUnits c units told bits → AreMultiples c.al told

-- A magnitude below 2 ^ category that is a multiple of 2 ^ (al + 1) remains below it with bit al added.
abbrev pub LeavesRoom : ℕ → ℕ → Type 0
LeavesRoom al category = (m n : ℕ) → n ≡ m * 2 ^ (al + 1) → n ≤ 2 ^ category - 1 → n + 2 ^ al ≤ 2 ^ category - 1

-- Old values that are known down to bit al + 1 and have at most this category have room for bit al.
abbrev pub GivesRoom : Coding → ℕ → Type 0
GivesRoom c category = (o : ℤ) → IsMultiple (c.al + 1) o → nat_abs o ≤ 2 ^ category - 1 → HasCorrectionRoom c o

-- each coefficient of a scan's band at a place has room for the next bit
abbrev pub EachHasRoom : Scan → Blocks → Place → Type 0
EachHasRoom s before p = (k : ℕ) → is_in_band s k ≡ true → HasCorrectionRoom s.coding (coefficient before p.component p.x p.y k)

-- the frame after these items is progressive
abbrev pub IsProgressiveAfter : Limits → List Item → Type 0
IsProgressiveAfter limits items = is_progressive (frame_of_items limits items).process ≡ true

-- the bit down to which the scans among these items send coefficient k of component i
abbrev pub known_after : Limits → List Item → ℕ → ℕ → Option ℕ
known_after limits items i k = known_to (heads_of (frame_of_items limits items) (segments_of items)) i k

-- Each coefficient that the scans among the items sent down to a bit is a multiple of that power of two, and the others
-- are zero.
pub record AreKnown (limits : Limits) (items : List Item) (blocks : Blocks) : Type 0 where
  pub told : (i x y k n : ℕ) → known_after limits items i k ≡ Some n → IsMultiple n (coefficient blocks i x y k)
  pub unsent : (i x y k : ℕ) → known_after limits items i k ≡ None → coefficient blocks i x y k ≡ pos 0

-- this holds of all blocks that the items lead to
abbrev pub LeadsToKnown : Limits → List Item → Type 0
LeadsToKnown limits items = (blocks : Blocks) → Leads limits items blocks → AreKnown limits items blocks
