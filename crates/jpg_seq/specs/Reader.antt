-- What the states of the machine of a sequential scan mean (T.81, F.2.2).
use Rattle.std.specs.Prelude.{◌≡◌, ℕ, ◌+◌, ◌-◌, ◌<◌, Bool, List, [], ◌∷◌, ◌++◌, length, map, drop, slice_get, slice_set, slice_index_or, Option, Some, ℤ, pos, All, ◌*◌, ◌≤◌, ◌==◌, if◌then◌else◌, true, false, None}
use Rattle.jpg_spec.specs.Lists.{slot_value, is_distinct}
use Rattle.jpg_spec.specs.Elements.{Element, Coding, UnitLeft, Covers, at_start, new_unit}
use Rattle.jpg_spec.specs.Geometry.{Frame, component_at, mcu_row_frame, mcu_units, padded_blocks, scan_mcus_across, units, bounds, is_progressive}
use Rattle.jpg_spec.specs.declared.frame.Place.{Place}
use Rattle.jpg_spec.specs.PictureInWork.{AreDistinct, UnitsRead}
use Rattle.jpg_base.specs.Cursor.{IsPadded, AreIn, scan_mcus_down}
use Rattle.jpg_coefs.specs.Picture.{Picture, map_of, is_padded, put_at}
use Rattle.jpg_coefs.specs.Machine.{Interval, Kind, units_of, Chain, TakesBits}
use Rattle.jpg_seq.specs.declared.reader.SeqReader.{SeqReader}
use Rattle.jpg_seq.specs.declared.work.Coder.{Coder}
use Rattle.jpg_seq.specs.declared.work.UnitEnd.{UnitEnd}
use Rattle.jpg_seq.specs.Work.{AreSane, IsCodingOf, standing_at, Work, IsAtWork, TakesFromStore, no_work, env_in}
use Rattle.jpg_spec.specs.FrameHeader.{IsFrame}
use Rattle.jpg_spec.specs.Bits.{bits_of_bytes}
use Rattle.jpg_coefs.specs.declared.machine.Taken.{Taken}
use Rattle.jpg_coefs.specs.declared.machine.Taken.TheVariants as taken
use Rattle.jpg_seq.specs.declared.reader.BytesTaken.{BytesTaken}
use Rattle.std.specs.Option.{option_map}
use Rattle.jpg_spec.specs.Segments.{ScanHead, head_components}
use Rattle.jpg_spec.specs.Scan.{TablesInForce, scan_coding}
use Rattle.jpg_spec.specs.declared.frame.ScanPart.{ScanPart}
use Rattle.jpg_huff.specs.declared.table.Table.{Table}
use Rattle.jpg_huff.specs.declared.set.TableSet.{TableSet}
use Rattle.jpg_huff.specs.Sets.{dc_tables, ac_tables, in_slot}
use Rattle.jpg_huff.specs.Tables.{table_of, symbol_codes}

-- the tables of a component
abbrev pub coder_at : SeqReader → ℕ → Option Coder
coder_at m k = slot_value (slice_get m.coders k)

abbrev pub prediction_at : SeqReader → ℕ → ℤ
prediction_at m k = slice_index_or m.predictions k (pos 0)

-- after a complete unit of a component
abbrev pub behind : SeqReader → ℕ → SeqReader
behind m k = record m {
  predictions = slice_set m.predictions k (slice_index_or m.unit.values 0 (pos 0));
  unit = no_work;
  cursor = drop 1 m.cursor;
  left = m.left - 1;
}

-- the current unit is of this component, whose tables are there
pub record CanRead (m : SeqReader) (k : ℕ) : Type 0 where
  pub small : k < 4
  pub sane : AreSane m.bounds
  pub coder : Coder
  pub there : coder_at m k ≡ Some coder
  pub at_work : IsAtWork (env_in m.bounds coder (prediction_at m k)) m.unit

abbrev pub ReadsOn : SeqReader → ℕ → List Bool → UnitEnd → Work → List Bool → Type 0
ReadsOn m k store answer new rest =
    (coder : Coder) × (coder_at m k ≡ Some coder) × TakesFromStore (env_in m.bounds coder (prediction_at m k)) m.unit store (Some answer) new rest

-- with this current unit
abbrev pub with_work : SeqReader → Work → SeqReader
with_work m unit = record m { unit = unit }

-- THE MEANING OF ITS STATES

abbrev pub new_at : Place → UnitLeft
new_at p = new_unit p.component

abbrev pub new_units_at : List Place → List UnitLeft
new_units_at places = map new_at places

-- a place of the picture, of a component whose tables are there
pub record IsPlaceReadable (m : SeqReader) (f : Frame) (p : Place) : Type 0 where
  pub small : p.component < 4
  pub padded : IsPadded f p.component p.x p.y
  pub coder : Coder
  pub there : coder_at m p.component ≡ Some coder

-- the machine's parameters are those of the coding
pub record ReadsBy (m : SeqReader) (c : Coding) : Type 0 where
  pub sane : AreSane m.bounds
  pub codes : (k : ℕ) (coder : Coder) → coder_at m k ≡ Some coder → IsCodingOf m.bounds coder.dc coder.ac c k

-- complete blocks of components that had no scan so far
pub record IsSequential (i : Interval) : Type 0 where
  pub units : units_of i ≡ new_units_at i.places
  pub ss : i.scan.ss ≡ 0
  pub se : i.scan.se ≡ 63

-- Complete units, and a part of the next.
pub record RepresentsSeqScan (m : SeqReader) (i : Interval) (bits : List Bool) (now : Picture) : Type 0 where
  pub reads : ReadsBy m i.scan.coding
  pub kind : IsSequential i
  pub distinct : AreDistinct (i.places ++ i.later)
  pub done : List Place
  pub next : Place
  pub more : List Place
  pub all : i.places ≡ done ++ next ∷ more
  pub cursor : m.cursor ≡ next ∷ (more ++ i.later)
  pub left : m.left ≡ 1 + length more
  pub spots : All (IsPlaceReadable m i.before.frame) (next ∷ (more ++ i.later))
  pub whole : List ℤ
  pub predictions : ℕ → ℤ
  pub elements : List Element
  pub front : List Bool
  pub part : List Bool
  pub covers : Covers i.scan.coding (at_start (units_of i)) elements whole front (record { predictions = predictions; left = new_units_at (next ∷ more) })
  pub split : bits ≡ front ++ part
  pub four : length m.predictions ≡ 4
  pub predicts : (k : ℕ) → k < 4 → prediction_at m k ≡ predictions k
  pub unit_elements : List Element
  pub unit_front : List Bool
  pub unit_covers : Covers i.scan.coding (standing_at predictions next.component (new_units_at more) []) unit_elements m.unit.values unit_front (standing_at predictions next.component (new_units_at more) m.unit.values)
  pub unit_split : part ≡ unit_front ++ m.unit.part
  pub at_work : (coder : Coder) → coder_at m next.component ≡ Some coder → IsAtWork (env_in m.bounds coder (prediction_at m next.component)) m.unit
  pub frame : now.frame ≡ i.before.frame
  pub read : UnitsRead i.scan done (map_of i.before) (map_of now) whole

-- an interval that it may begin
pub record SeqReady (m : SeqReader) (i : Interval) : Type 0 where
  pub reads : ReadsBy m i.scan.coding
  pub kind : IsSequential i
  pub distinct : AreDistinct (i.places ++ i.later)
  pub sized : (k x y : ℕ) → length (map_of i.before k x y) ≡ 64
  pub cursor : m.cursor ≡ i.places ++ i.later
  pub left : m.left ≡ 0
  pub spots : All (IsPlaceReadable m i.before.frame) (i.places ++ i.later)
  pub four : length m.predictions ≡ 4

abbrev pub sequential : Kind SeqReader
sequential = record { stands = RepresentsSeqScan; ready = SeqReady; left = λ m. m.left; fits = IsSequential }

-- Bits of a scan that were taken so far in one call.

-- a machine, the picture in which its blocks are stored, and the bits that it is given
pub record Spot : Type 0 where
  pub machine : SeqReader
  pub picture : Picture
  pub store : List Bool

-- The bits taken are a chain, by which `done` units are complete, fewer than `most`.
pub record SoFar (most : ℕ) (from now : Spot) (done : ℕ) : Type 0 where
  pub taken : List Bool
  pub split : from.store ≡ taken ++ now.store
  pub chain : Chain sequential from.machine from.picture taken now.machine now.picture
  pub count : (from.machine).left ≡ (now.machine).left + done
  pub few : done < most
  pub interval : Interval
  pub bits : List Bool
  pub standing : RepresentsSeqScan now.machine interval bits now.picture

-- The blocks of a picture that are stored: all, or those of one row of its MCUs (T.81, A.2.3).

-- the row of a component's grid at which the MCU row begins
abbrev pub top_of : List ℕ → ℕ → ℕ
top_of tops i = slice_index_or tops i 0

-- The blocks of the MCU row that begins at these rows are those of the picture.
pub record IsRowOf (tops : List ℕ) (whole row : Picture) : Type 0 where
  pub framed : row.frame ≡ mcu_row_frame whole.frame
  pub count : length whole.blocks ≡ padded_blocks whole.frame
  pub blocks : (i x y : ℕ) → is_padded row.frame i x y ≡ true → map_of row i x y ≡ map_of whole i x (top_of tops i + y)

-- which of them are stored
pub data Part : Type 0 where
  all_blocks : Part
  one_row : Part

-- where the grids of a whole picture begin
abbrev pub no_tops : List ℕ
no_tops = 0 ∷ 0 ∷ 0 ∷ 0 ∷ []

-- These blocks, which begin at these rows of the grids, are that part of the picture.
abbrev pub Shows : Part → List ℕ → Picture → Picture → Type 0
Shows all_blocks tops whole stored = (tops ≡ no_tops) × (stored ≡ whole)
Shows one_row tops whole stored = IsRowOf tops whole stored

-- a place of the picture as a place in what is stored
abbrev pub lowered : List ℕ → Place → Place
lowered tops p = record p { y = p.y - top_of tops p.component }

-- it is in what is stored
pub record IsInRow (f : Frame) (tops : List ℕ) (p : Place) : Type 0 where
  pub below : top_of tops p.component ≤ p.y
  pub padded : IsPadded f p.component p.x (p.y - top_of tops p.component)

abbrev pub AreInRow : Frame → List ℕ → List Place → Type 0
AreInRow f tops places = All (IsInRow f tops) places

-- THE MCU ROWS OF A SCAN

-- how many places it has in an MCU row
abbrev pub row_units : Frame → List ℕ → ℕ
row_units f components = scan_mcus_across f components * mcu_units f components

-- the rows of blocks of component i in an MCU row: one, if it is the only component
abbrev pub rows_in_mcu : Frame → ℕ → ℕ
rows_in_mcu f i = if length f.components == 1 then 1 else (component_at f i).v

-- MCU row k begins at these rows of the grids
abbrev pub BeginAt : Frame → List ℕ → ℕ → Type 0
BeginAt f tops k = (i : ℕ) → i < length f.components → top_of tops i ≡ k * rows_in_mcu f i

-- From a place of the scan of all components on: `left` of the places are those that are left of MCU row k, which
-- begins at these rows.
pub record IsNext (f : Frame) (components tops : List ℕ) (places : List Place) (k left : ℕ) : Type 0 where
  pub frame : IsFrame f
  pub there : AreIn f components
  pub all : length components ≡ length f.components
  pub begins : BeginAt f tops k
  pub row : k < scan_mcus_down f components
  pub few : left ≤ row_units f components
  pub next : places ≡ drop (k * row_units f components + (row_units f components - left)) (units f components)

-- Bits of a sequential scan that are taken while all blocks of a picture are stored, or those of one row of its MCUs.

-- The machine was given some bits, and the complete picture has what they encode.
abbrev pub IsOpen : SeqReader → Picture → Type 0
IsOpen m whole = (i : Interval) × (bits : List Bool) × RepresentsSeqScan m i bits whole

-- there is a picture of which these blocks are a part
abbrev pub CanReadInto : List ℕ → SeqReader → Picture → Type 0
CanReadInto tops m stored = (part : Part) × (whole : Picture) × Shows part tops whole stored × IsOpen m whole

-- Whatever picture the blocks are a part of, the bits are taken into it, and they are that part of the picture after them.
abbrev pub ReadsInto : ℕ → List ℕ → SeqReader → Picture → List Bool → Taken → SeqReader → Picture → List Bool → Type 0
ReadsInto most tops m stored store answer new after rest =
    (part : Part) (whole : Picture) → Shows part tops whole stored → IsOpen m whole
    → (now : Picture) × Shows part tops now after × TakesBits sequential most m whole store answer new now rest

abbrev pub ReadsBytesInto : ℕ → List ℕ → SeqReader → Picture → List ℕ → BytesTaken → SeqReader → Picture → Type 0
ReadsBytesInto most tops m stored bytes result new after = ReadsInto most tops m stored (bits_of_bytes bytes) result.taken new after (drop result.bits (bits_of_bytes bytes))

-- how many units a result means: fewer than were asked for, or all of them, or all of the interval
abbrev pub IsCountOf : ℕ → Taken → SeqReader → ℕ → Type 0
IsCountOf most taken.More m units = units < most
IsCountOf most taken.Units m units = (units ≡ most) × (1 ≤ m.left)
IsCountOf most taken.IntervalDone m units = (units ≤ most) × (m.left ≡ 0)
IsCountOf most (taken.Fault f) m units = units < most

-- this many places were passed
pub record PassesPlaces (most : ℕ) (m : SeqReader) (answer : Taken) (new : SeqReader) : Type 0 where
  pub units : ℕ
  pub few : IsCountOf most answer new units
  pub cursor : new.cursor ≡ drop units m.cursor
  pub left : m.left ≡ new.left + units

-- the same, and the places that are passed
pub record ReadsPlaces (most : ℕ) (tops : List ℕ) (m : SeqReader) (stored : Picture) (store : List Bool) (answer : Taken) (new : SeqReader) (after : Picture) (rest : List Bool) : Type 0 where
  pub takes : ReadsInto most tops m stored store answer new after rest
  pub passes : PassesPlaces most m answer new

-- A complete unit at a place of what is stored may be put into it.
pub record CanPut (m : SeqReader) (f : Frame) (tops : List ℕ) (p : Place) : Type 0 where
  pub small : p.component < 4
  pub here : IsInRow f tops p
  pub whole : length m.unit.values ≡ 64
  pub left : 1 ≤ m.left
  pub place : 1 ≤ length m.cursor

pub record PutsUnit (tops : List ℕ) (m : SeqReader) (stored : Picture) (p : Place) (new : SeqReader) (after : Picture) : Type 0 where
  pub machine : new ≡ behind m p.component
  pub count : length stored.blocks ≡ padded_blocks stored.frame
  pub block : after ≡ put_at stored (lowered tops p) m.unit.values

-- What was read in one call so far: fewer complete units than were asked for.
pub record ReadsSoFar (most : ℕ) (tops : List ℕ) (from now : Spot) (done : ℕ) : Type 0 where
  pub so_far : (part : Part) (whole : Picture) → Shows part tops whole from.picture → IsOpen from.machine whole
      → (after : Picture) × Shows part tops after now.picture × SoFar most (record from { picture = whole }) (record now { picture = after }) done
  pub framed : (now.picture).frame ≡ (from.picture).frame
  pub few : done < most
  pub cursor : (now.machine).cursor ≡ drop done (from.machine).cursor
  pub left : (from.machine).left ≡ (now.machine).left + done

-- The machine of a sequential scan before its first unit.

-- the tables of a set, by class (0 is DC, 1 is AC) and slot
abbrev pub in_force : TableSet → TablesInForce
in_force set class slot = option_map table_of (in_slot (if class == 0 then dc_tables set else ac_tables set) slot)

-- the tables of a part are there
pub record HasTables (set : TableSet) (p : ScanPart) : Type 0 where
  pub dc : Table
  pub in_dc : in_slot (dc_tables set) p.dc ≡ Some dc
  pub ac : Table
  pub in_ac : in_slot (ac_tables set) p.ac ≡ Some ac

-- a scan header of a sequential frame, whose tables are there
pub record IsSeqScan (f : Frame) (head : ScanHead) (set : TableSet) : Type 0 where
  pub sequential : is_progressive f.process ≡ false
  pub components : AreIn f (head_components head)
  pub distinct : is_distinct (head_components head) ≡ true
  pub tables : All (HasTables set) head.parts

-- an interval of the scan, before its first unit
pub record IsOfScan (f : Frame) (head : ScanHead) (set : TableSet) (i : Interval) : Type 0 where
  pub coding : i.scan.coding ≡ scan_coding f (in_force set) head
  pub kind : IsSequential i
  pub sized : (k x y : ℕ) → length (map_of i.before k x y) ≡ 64
  pub places : i.places ++ i.later ≡ units f (head_components head)
  pub frame : i.before.frame ≡ f

-- the decoders of a part's tables
pub record IsCoderOf (set : TableSet) (p : ScanPart) (coder : Coder) : Type 0 where
  pub dc : Table
  pub in_dc : in_slot (dc_tables set) p.dc ≡ Some dc
  pub ac : Table
  pub in_ac : in_slot (ac_tables set) p.ac ≡ Some ac
  pub dc_codes : coder.dc ≡ symbol_codes dc
  pub ac_codes : coder.ac ≡ symbol_codes ac

abbrev pub part_at : List ScanPart → ℕ → ScanPart
part_at parts j = slice_index_or parts j (record { component = 0; dc = 0; ac = 0 })

-- the first parts were filled in
pub record AreFilled (set : TableSet) (parts : List ScanPart) (n : ℕ) (coders : List (Option Coder)) : Type 0 where
  pub four : length coders ≡ 4
  pub found : (k : ℕ) (coder : Coder) → slot_value (slice_get coders k) ≡ Some coder → (j : ℕ) × (j < n) × ((part_at parts j).component ≡ k) × IsCoderOf set (part_at parts j) coder
  pub there : (j : ℕ) → j < n → (coder : Coder) × (slot_value (slice_get coders (part_at parts j).component) ≡ Some coder)

-- no tables
abbrev pub no_coders : List (Option Coder)
no_coders = None ∷ None ∷ None ∷ None ∷ []

-- the machine before its tables are put in
pub record IsBare (f : Frame) (head : ScanHead) (m : SeqReader) : Type 0 where
  pub bounds : m.bounds ≡ bounds f
  pub coders : m.coders ≡ no_coders
  pub cursor : m.cursor ≡ units f (head_components head)
  pub four : length m.predictions ≡ 4
  pub left : m.left ≡ 0
