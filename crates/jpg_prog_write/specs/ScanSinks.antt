-- WHAT THE STATES OF SINKS MEAN: of a scan's DC values and of its bands, written and counted.
use Rattle.std.specs.Prelude.{◌≡◌, ℕ, ◌≤◌, ◌<◌, true, false, nat_lt, Bool, List, length, map, flat_map, ℤ}
use Rattle.jpg_spec.specs.Elements.{Element}
use Rattle.jpg_spec.specs.Segments.{ScanHead}
use Rattle.jpg_spec.specs.Scan.{part_of}
use Rattle.jpg_spec_write.specs.Sending.{shifted, band_elements}
use Rattle.jpg_spec_write.specs.ScanText.{UnitDue, Owned, unit_elements, element_bits}
use Rattle.jpg_coefs.specs.BitSinks.{BitSink, interval_bits}
use Rattle.jpg_coefs.specs.MarkSinks.{MarkSink, owned_marks, interval_marks}
use Rattle.jpg_prog_write.specs.Bands.{IsReady, IsShort, IsBandOf, band_sents}
use Rattle.jpg_prog_write.specs.Items.{texts}
use Rattle.jpg_prog_write.specs.Putting.{ac_codes}
use Rattle.jpg_prog_write.specs.Written.{tables_in, given_dc, first_slot}
use Rattle.jpg_prog_write.specs.Counted.{marks_of}
use Rattle.jpg_coefs.specs.declared.intervals.GivenUnit.{GivenUnit}
use Rattle.jpg_prog_write.specs.declared.bands.Bands.{Bands}
use Rattle.jpg_prog_write.specs.declared.dc.DcUnits.{DcUnits}
use Rattle.jpg_prog_write.specs.declared.ac.AcUnits.{AcUnits}
use Rattle.jpg_prog_write.specs.declared.count.DcCounter.{DcCounter}
use Rattle.jpg_prog_write.specs.declared.count.AcCounter.{AcCounter}

-- DC VALUES

pub record IsDcHead (head : ScanHead) : Type 0 where
  pub dc : head.ss ≡ 0
  pub bits : head.al ≤ 13

-- the results of the elements of units after these DC values
abbrev pub dc_all : {X : Type 0} → (Owned → List X) → ScanHead → (ℕ → ℤ) → List UnitDue → List X
dc_all each head last due = flat_map each (unit_elements false (nat_lt 0 head.ah) head.al (λ i. shifted head.al (last i)) due)

-- the bits of the DC value of a unit
abbrev pub unit_bits : DcUnits → GivenUnit → List Bool
unit_bits s unit = element_bits (tables_in s.tables.now) s.head.now (given_dc s.head.now unit)

abbrev pub dc_units : BitSink DcUnits
dc_units = record {
  bits = λ s. interval_bits true (tables_in s.tables.now) s.head.now;
  fits = λ s u. Unit {0};
  rest = λ s. dc_all (element_bits (tables_in s.tables.now) s.head.now) s.head.now;
  later = λ from now. (now ≡ from) × IsDcHead now.head.now;
}

-- BANDS

pub record IsAcHead (head : ScanHead) : Type 0 where
  pub one : length head.parts ≡ 1
  pub some : 1 ≤ head.ss
  pub order : head.ss ≤ head.se
  pub most : head.se ≤ 63
  pub bits : head.al ≤ 13

-- a unit of the scan's component, with values whose symbols are bytes
pub record IsBandUnit (head : ScanHead) (u : UnitDue) : Type 0 where
  pub slot : (part_of head u.0).ac ≡ first_slot head
  pub short : IsShort u.1

pub record AreBandsOf (head : ScanHead) (bands : Bands) : Type 0 where
  pub ac : IsAcHead head
  pub ready : IsReady bands
  pub band : IsBandOf head bands.band

-- the elements of the EOB run that waits and of the bands of units
abbrev pub bands_left : Bands → List UnitDue → List Element
bands_left b due = band_elements 32767 b.bands b.waiting.items (map (λ (u : UnitDue). band_sents b.band u.1) due)

abbrev pub ac_units : BitSink AcUnits
ac_units = record {
  bits = λ s. interval_bits true (tables_in s.codes.tables.now) s.head.now;
  fits = λ s u. IsBandUnit s.head.now u;
  rest = λ s last due. texts (ac_codes s.codes) (bands_left s.bands due);
  later = λ from now. (now.head ≡ from.head) × (now.codes.tables ≡ from.codes.tables) × AreBandsOf now.head.now now.bands × (now.codes.slot ≡ first_slot now.head.now);
}

-- COUNTERS

abbrev pub dc_counter : MarkSink DcCounter
dc_counter = record {
  marks = λ s. interval_marks true s.head.now;
  fits = λ s u. (part_of s.head.now u.0).dc < 2;
  rest = λ s. dc_all (owned_marks s.head.now) s.head.now;
  later = λ from now. (now ≡ from) × IsDcHead now.head.now × (now.head.now.ah ≡ 0);
}

abbrev pub ac_counter : MarkSink AcCounter
ac_counter = record {
  marks = λ s. interval_marks true s.head.now;
  fits = λ s u. IsBandUnit s.head.now u;
  rest = λ s last due. marks_of s.slot (bands_left s.bands due);
  later = λ from now. (now.head ≡ from.head) × AreBandsOf now.head.now now.bands × (now.slot ≡ first_slot now.head.now) × (now.slot < 2);
}
