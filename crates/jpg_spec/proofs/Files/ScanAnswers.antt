-- THE ANSWERS of a reader inside scan data, a lemma for each: a machine has the bits of the current interval, and the
-- gate the bytes.
use Rattle.std.proofs.Common.{◌≡◌, ℕ, suc, ◌+◌, ◌%◌, ◌≤◌, List, [], ◌∷◌, ◌++◌, length, sym, subst, arith, Bool, ℤ}
use Rattle.std.specs.Prelude.{map, replicate}
use Rattle.jpg_spec.specs.Bits.{bits_of, bits_of_bytes}
use Rattle.jpg_spec.specs.Elements.{UnitLeft, SpellsUnits}
use Rattle.jpg_spec.specs.Scan.{unit_at}
use Rattle.jpg_spec.specs.ScanFaults.{DataReveals}
use Rattle.jpg_spec.specs.Items.{segments_of}
use Rattle.jpg_spec.specs.FirstFault.{Reveals}
use Rattle.jpg_spec.specs.UnfinishedFile.{UnfinishedFile}
use Rattle.jpg_spec.specs.Parts.{StandsInUnits}
use Rattle.jpg_spec.specs.ScanReading.{ScanPlace, scan_at, with_byte, with_interval, ScanAt, CompletesAt}
use Rattle.jpg_spec.specs.declared.fault.Fault.{Fault}
use Rattle.jpg_spec.specs.declared.fault.Fault.TheVariants.{EntropyShort, ExtraData, RestartWrong}
use Rattle.jpg_spec.specs.declared.frame.Limits.{Limits}
use Rattle.jpg_spec.specs.declared.frame.Place.{Place}
use Rattle.jpg_spec.proofs.Segments.TablesInForce.{scan_sound}
use Rattle.jpg_spec.proofs.Bits.DataFacts.{completes_holds}
use Rattle.jpg_spec.proofs.Bits.PartStands.{part_due}
use Rattle.jpg_spec.proofs.Files.ScanSteps.{data_shown, extra_shown, short_shown, restart_shown, next_interval, due_stands, marker_code}
use Rattle.jpg_spec.proofs.Places.PictureInWork.{byte_packs, byte_shows, byte_bits, starts_due}

-- the units of the current interval
abbrev pub units_at : Limits → ScanPlace → List UnitLeft
units_at limits p = map (unit_at (scan_at limits p) p.blocks) p.places

-- A DATA BYTE, whose bits the machine took

-- all of them, and units are left: the file has no fault, also with FF bytes after them
pub units_due : (limits : Limits) (bytes : List ℕ) (p : ScanPlace) (fill : ℕ) (told : List ℤ) (left : List UnitLeft) → ScanAt limits bytes p (replicate fill 255)
    → StandsInUnits (scan_at limits p).coding (units_at limits p) told left (bits_of_bytes p.coded) → UnfinishedFile limits bytes
units_due limits bytes p fill told left w s =
    due_stands limits bytes p fill w (part_due (scan_at limits p) p.blocks p.places told left p.coded (scan_sound limits (segments_of p.items) p.contents) s)

pub bits_due : (limits : Limits) (bytes : List ℕ) (p : ScanPlace) (byte : ℕ) (told : List ℤ) (left : List UnitLeft) → ScanAt limits bytes (with_byte p byte) []
    → StandsInUnits (scan_at limits p).coding (units_at limits p) told left (bits_of_bytes p.coded ++ bits_of 8 byte) → UnfinishedFile limits bytes
bits_due limits bytes p byte told left w s =
    units_due limits bytes (with_byte p byte) 0 told left w (subst (λ l. StandsInUnits (scan_at limits p).coding (units_at limits p) told left l) (sym (byte_bits p.coded byte)) s)

-- an interval that begins has no fault
pub begun_stands : (limits : Limits) (bytes : List ℕ) (p : ScanPlace) → ScanAt limits bytes p [] → p.coded ≡ [] → 1 ≤ length p.places → UnfinishedFile limits bytes
begun_stands limits bytes p w none some =
    units_due limits bytes p 0 [] (units_at limits p) w (subst (λ l. StandsInUnits (scan_at limits p).coding (units_at limits p) [] (units_at limits p) (bits_of_bytes l)) (sym none) (by p.places some))
  where
    by : (places : List Place) → 1 ≤ length places → (let units = map (unit_at (scan_at limits p) p.blocks) places in StandsInUnits (scan_at limits p).coding units [] units [])
    by [] h = absurd (omega (arith, h))
    by (q ∷ places) h = starts_due (scan_at limits p).coding (unit_at (scan_at limits p) p.blocks q) (map (unit_at (scan_at limits p) p.blocks) places)

-- the last unit's last bit is among them: the interval is complete
pub bits_complete : (limits : Limits) (p : ScanPlace) (byte : ℕ) (bits rest : List Bool) (told : List ℤ) → bits_of 8 byte ≡ bits ++ rest → 1 ≤ length bits
    → SpellsUnits (scan_at limits p).coding (units_at limits p) told (bits_of_bytes p.coded ++ bits) → CompletesAt limits (with_byte p byte)
bits_complete limits p byte bits rest told e some k = (told, (bits_of_bytes p.coded ++ bits, byte_packs p.coded byte bits rest e some, k))

-- one of them has a fault
pub bits_shown : (limits : Limits) (bytes : List ℕ) (p : ScanPlace) (byte : ℕ) (fault : Fault) (bits rest : List Bool) → ScanAt limits bytes (with_byte p byte) [] → bits_of 8 byte ≡ bits ++ rest
    → DataReveals (scan_at limits p).coding (units_at limits p) fault (bits_of_bytes p.coded ++ bits) → Reveals limits fault bytes
bits_shown limits bytes p byte fault bits rest w e d = data_shown limits bytes (with_byte p byte) fault w (byte_shows (scan_at limits p).coding (units_at limits p) fault p.coded byte bits rest e d)

-- one more data byte
pub interval_extra : (limits : Limits) (bytes : List ℕ) (p : ScanPlace) (byte : ℕ) → ScanAt limits bytes (with_byte p byte) [] → CompletesAt limits p → Reveals limits ExtraData bytes
interval_extra limits bytes p byte w k = extra_shown limits bytes p byte w (completes_holds (scan_at limits p) p.blocks p.places p.coded k)

-- A MARKER while units are left
pub units_short : (limits : Limits) (bytes : List ℕ) (p : ScanPlace) (fill code : ℕ) (told : List ℤ) (left : List UnitLeft) → (code ≡ 0 → ⊥) → (code ≡ 255 → ⊥) → ScanAt limits bytes p (replicate (suc fill) 255 ++ code ∷ [])
    → StandsInUnits (scan_at limits p).coding (units_at limits p) told left (bits_of_bytes p.coded) → Reveals limits EntropyShort bytes
units_short limits bytes p fill code told left z f w s =
    short_shown limits bytes p code (replicate (suc fill) 255 ++ code ∷ []) w (marker_code fill code z f)
    (part_due (scan_at limits p) p.blocks p.places told left p.coded (scan_sound limits (segments_of p.items) p.contents) s).0

-- another marker than the expected one
pub interval_wrong : (limits : Limits) (bytes : List ℕ) (p : ScanPlace) (next : List Place) (others : List (List Place)) (fill code : ℕ) → (code ≡ 0 → ⊥) → (code ≡ 255 → ⊥) → ScanAt limits bytes p (replicate (suc fill) 255 ++ code ∷ [])
    → CompletesAt limits p → p.later ≡ next ∷ others → (code ≡ 0xd0 + length p.done % 8 → ⊥) → Reveals limits RestartWrong bytes
interval_wrong limits bytes p next others fill code z f w k due wrong =
    restart_shown limits bytes p next others code (replicate (suc fill) 255 ++ code ∷ []) w (completes_holds (scan_at limits p) p.blocks p.places p.coded k) due (marker_code fill code z f) wrong

-- the expected one: the next interval begins
pub interval_begun : (limits : Limits) (bytes : List ℕ) (p : ScanPlace) (next : List Place) (others : List (List Place)) (fill : ℕ)
    → ScanAt limits bytes p (replicate (suc fill) 255 ++ (0xd0 + length p.done % 8) ∷ []) → CompletesAt limits p → p.later ≡ next ∷ others → ScanAt limits bytes (with_interval p next others) []
interval_begun limits bytes p next others fill w k due =
    let z : 0xd0 + length p.done % 8 ≡ 0 → ⊥ = λ h. omega (arith, h) in
    let f : 0xd0 + length p.done % 8 ≡ 255 → ⊥ = λ h. omega (arith, h) in
    next_interval limits bytes p next others (replicate (suc fill) 255 ++ (0xd0 + length p.done % 8) ∷ []) w k due (marker_code fill (0xd0 + length p.done % 8) z f)
