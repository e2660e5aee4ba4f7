-- THE FIRST FAULT of a file: the shortest prefix of the bytes that has a fault, and the first of the prefix's faults in
-- their order. No clause mentions a reader or pieces. Each says which first bytes have the fault. A file that ends
-- early is no file and has no fault at any of its bytes: its fault, if any, is at its end.
use Rattle.std.specs.Prelude.{◌≡◌, ◌⊎◌, ℕ, ◌+◌, ◌%◌, ◌<◌, ◌≤◌, Bool, true, false, List, [], ◌∷◌, ◌++◌, length, take, map, None, ℤ}
use Rattle.jpg_spec.specs.Bits.{Packs, bits_of_bytes}
use Rattle.jpg_spec.specs.Lists.{chunks}
use Rattle.jpg_spec.specs.Elements.{SpellsUnits}
use Rattle.jpg_spec.specs.Scan.{Blocks, Scan, unit_at}
use Rattle.jpg_spec.specs.ScanFaults.{DataReveals}
use Rattle.jpg_spec.specs.Meaning.{Meaning}
use Rattle.jpg_spec.specs.Markers.{SpellsMarker, SpellsSegment, code_fault, RevealsNoStart, NoMarkerBytes, TailReveals, IsLeast}
use Rattle.jpg_spec.specs.InForce.{frame_of}
use Rattle.jpg_spec.specs.History.{is_complete}
use Rattle.jpg_spec.specs.Items.{Item, segments_of, SpellsFront, SpellsIntervalsText, ends_in_scan, contents_rule}
use Rattle.jpg_spec.specs.FileMeaning.{Leads, scan_after, Means}
use Rattle.jpg_spec.specs.declared.fault.Fault.{Fault}
use Rattle.jpg_spec.specs.declared.fault.Fault.TheVariants.{NotJpeg, Truncated, NoMarker, EntropyShort, ExtraData, RestartWrong, MissingComponent, InputTooLong}
use Rattle.jpg_spec.specs.declared.frame.Limits.{Limits}
use Rattle.jpg_spec.specs.declared.frame.Place.{Place}

-- BETWEEN ITEMS: complete items that break no rule, and then bytes of a further one

pub record AfterItems (limits : Limits) (bytes : List ℕ) (items : List Item) (tail : List ℕ) : Type 0 where
  pub front : List ℕ
  pub blocks : Blocks
  pub cut : bytes ≡ front ++ tail
  pub spelled : SpellsFront items front
  pub leads : Leads limits items blocks

-- the fault of the bytes of a further item; directly after scan data a byte other than FF is one of theirs
abbrev pub ItemReveals : Limits → List Item → Fault → List ℕ → Type 0
ItemReveals limits items fault tail =
    ((fault ≡ NoMarker) × (ends_in_scan items ≡ false) × NoMarkerBytes tail)
    ⊎ (TailReveals (contents_rule limits) (segments_of items) fault tail
    ⊎ ((fault ≡ MissingComponent) × SpellsMarker 0xd9 tail × (code_fault (segments_of items) 0xd9 ≡ None)
    × (is_complete (frame_of limits (segments_of items)) (segments_of items) ≡ false)))

-- INSIDE SCAN DATA: complete intervals, the data bytes of the current one, and then bytes that aren't a data byte yet

abbrev pub HoldsUnits : Scan → Blocks → List Place → List ℕ → Type 0
HoldsUnits s before places coded =
    (told : List ℤ) × ((bits : List Bool) × (rest : List Bool) × (bits_of_bytes coded ≡ bits ++ rest) × SpellsUnits s.coding (map (unit_at s before) places) told bits)

-- Complete intervals have their units, followed by fewer than eight bits. These intervals are left then.
abbrev pub HoldsAll : Scan → Blocks → List (List Place) → List (List ℕ) → List (List Place) → Type 0
HoldsAll s before places [] due = places ≡ due
HoldsAll s before [] (coded ∷ intervals) due = ⊥
HoldsAll s before (places ∷ later) (coded ∷ intervals) due =
    (told : List ℤ) × ((bits : List Bool) × Packs bits coded × SpellsUnits s.coding (map (unit_at s before) places) told bits) × HoldsAll s before later intervals due

pub record InsideScan (limits : Limits) (bytes : List ℕ) (tail : List ℕ) : Type 0 where
  pub items : List Item
  pub blocks : Blocks
  pub contents : List ℕ
  pub done : List (List ℕ)
  pub coded : List ℕ
  pub places : List Place
  pub later : List (List Place)
  pub front : List ℕ
  pub head : List ℕ
  pub text : List ℕ
  pub cut : bytes ≡ front ++ head ++ text ++ tail
  pub spelled : SpellsFront items front
  pub header : SpellsSegment 0xda contents head
  pub intervals : SpellsIntervalsText 0 (done ++ coded ∷ []) text
  pub leads : Leads limits items blocks
  pub allowed : (code_fault (segments_of items) 0xda ≡ None) × (contents_rule limits (segments_of items) 0xda contents ≡ None)
  pub due : (let s = scan_after limits (segments_of items) contents in HoldsAll s blocks (chunks s.interval s.places) done (places ∷ later))

abbrev pub ScanReveals : (limits : Limits) → (bytes : List ℕ) → Fault → (tail : List ℕ) → InsideScan limits bytes tail → Type 0
ScanReveals limits bytes fault tail w =
    let s = scan_after limits (segments_of w.items) w.contents in
    ((tail ≡ []) × DataReveals s.coding (map (unit_at s w.blocks) w.places) fault (bits_of_bytes w.coded))
    ⊎ (((fault ≡ EntropyShort) × ((code : ℕ) × SpellsMarker code tail) × (HoldsUnits s w.blocks w.places w.coded → ⊥))
    ⊎ (((fault ≡ ExtraData) × (tail ≡ []) × ((coded : List ℕ) × (byte : ℕ) × (w.coded ≡ coded ++ byte ∷ []) × HoldsUnits s w.blocks w.places coded))
    ⊎ ((fault ≡ RestartWrong) × HoldsUnits s w.blocks w.places w.coded × ((next : List Place) × (others : List (List Place)) × (w.later ≡ next ∷ others))
    × ((code : ℕ) × SpellsMarker code tail × (code ≡ 0xd0 + length w.done % 8 → ⊥)))))

-- THE FIRST FAULT

-- These bytes have the fault. Faults of scan data and ExtraData are also those of all longer data of their interval, so
-- that the shortest prefix is the one that has them first; all other faults are revealed by the last byte. (The faults
-- of the input's end are separate.)
abbrev pub Reveals : Limits → Fault → List ℕ → Type 0
Reveals limits fault bytes =
    ((fault ≡ NotJpeg) × RevealsNoStart bytes)
    ⊎ (((items : List Item) × (tail : List ℕ) × AfterItems limits bytes items tail × ItemReveals limits items fault tail)
    ⊎ ((tail : List ℕ) × (w : InsideScan limits bytes tail) × ScanReveals limits bytes fault tail w))

abbrev pub RevealsNone : Limits → List ℕ → Type 0
RevealsNone limits bytes = (fault : Fault) (n : ℕ) → n ≤ length bytes → Reveals limits fault (take n bytes) → ⊥

abbrev pub HasMeaning : Limits → List ℕ → Type 0
HasMeaning limits bytes = (M : Meaning) × Means limits bytes M

-- Complete items that break no rule, and a complete SOS segment that breaks none: with it each component has begun
-- (T.81, B.2.3).
pub record HaveBegun (limits : Limits) (bytes : List ℕ) : Type 0 where
  pub items : List Item
  pub blocks : Blocks
  pub contents : List ℕ
  pub front : List ℕ
  pub head : List ℕ
  pub rest : List ℕ
  pub cut : bytes ≡ front ++ head ++ rest
  pub spelled : SpellsFront items front
  pub header : SpellsSegment 0xda contents head
  pub leads : Leads limits items blocks
  pub allowed : (code_fault (segments_of items) 0xda ≡ None) × (contents_rule limits (segments_of items) 0xda contents ≡ None)
  pub complete : is_complete (frame_of limits (segments_of items)) ((0xda, contents) ∷ segments_of items) ≡ true

-- A PREMATURE END (release 6b's libjpeg.doc): the bytes aren't a complete file, have no fault, and each component has
-- begun.
pub record IsEarly (limits : Limits) (bytes : List ℕ) : Type 0 where
  pub short : length bytes < limits.input
  pub faultless : RevealsNone limits bytes
  pub unended : HasMeaning limits bytes → ⊥
  pub begun : HaveBegun limits bytes

abbrev pub IsFirstFault : Limits → List ℕ → Fault → ℕ → Type 0
IsFirstFault limits bytes fault n =
    ((n ≤ limits.input) × IsLeast (Reveals limits) bytes fault n)
    ⊎ (((fault ≡ InputTooLong) × (n ≡ limits.input) × (limits.input ≤ length bytes) × RevealsNone limits (take n bytes) × (HasMeaning limits bytes → ⊥))
    ⊎ ((fault ≡ Truncated) × (n ≡ length bytes) × (length bytes < limits.input) × RevealsNone limits bytes × (HasMeaning limits bytes → ⊥)
    × (IsEarly limits bytes → ⊥)))
