-- Bits that are written of pending ones, up to some that follow later.
use Rattle.std.specs.Prelude.{◌≡◌, Bool, List, [], ◌++◌, Result, Ok, Err}
use Rattle.jpg_base.specs.Desk.{DeskState}
use Rattle.jpg_base.specs.declared.stop.WriteFault.{WriteFault}
use Rattle.jpg_huff.specs.Waiting.{Waiting}
use Rattle.jpg_huff.specs.BitOut.{Puts, holding}
use Rattle.jpg_spec.specs.Codes.{Code}
use Rattle.jpg_spec_write.specs.Sending.{Sent}
use Rattle.jpg_spec.specs.Elements.{Element}
use Rattle.jpg_prog_write.specs.Items.{IsItem, texts}
use Rattle.jpg_prog_write.specs.Bands.{elements_left, elements_waiting}
use Rattle.jpg_prog_write.specs.Written.{codes_in}
use Rattle.jpg_prog_write.specs.declared.bands.Bands.{Bands}
use Rattle.jpg_prog_write.specs.declared.put.AcCodes.{AcCodes}
use Rattle.jpg_prog_write.specs.declared.put.WrittenElement.{WrittenElement}

-- the codes by which AC symbols are written
abbrev pub ac_codes : AcCodes → List Code
ac_codes codes = codes_in codes.tables.now 1 codes.slot

-- what is written of an element
abbrev pub IsWritten : Element → WrittenElement → Type 0
IsWritten e written = IsItem e written.item written.bits.now

-- all but these; after a fault all of them are still pending
abbrev pub PutsBut : DeskState → Waiting → List Bool → List Bool → Result (Unit {0}) WriteFault → Waiting → DeskState → Type 0
PutsBut s0 old all rest (Ok u) new s1 = (front : List Bool) × (front ++ rest ≡ all) × Puts s0 old front (Ok tt) new s1
PutsBut s0 old all rest (Err fault) new s1 = Puts s0 old all (Err fault) new s1

-- all of a band that is begun, except for the EOB run that waits then, whatever bands follow later
abbrev pub PutsBand : DeskState → Waiting → List Code → Bands → Result (Unit {0}) WriteFault → Bands → Waiting → DeskState → Type 0
PutsBand s0 out codes old result new after s1 = (later : List (List Sent)) → PutsBut s0 out (texts codes (elements_left old later)) (texts codes (elements_waiting new later)) result after s1

-- all of a band that is begun, after bits that the caller has, of the values before an EOB run
abbrev pub PutsValues : DeskState → Waiting → List Bool → List Code → Bands → Result (List Bool) WriteFault → Bands → Waiting → DeskState → Type 0
PutsValues s0 out held codes old (Ok left) new after s1 =
    (later : List (List Sent)) → PutsBut s0 (holding out held) (texts codes (elements_left old later)) (texts codes (elements_left new later)) (Ok tt) (holding after left) s1
PutsValues s0 out held codes old (Err fault) new after s1 =
    (later : List (List Sent)) → Puts s0 (holding out held) (texts codes (elements_left old later)) (Err fault) (holding after []) s1
