-- The only interval of a scan over zero blocks.
use Rattle.std.proofs.Common.{◌≡◌, ℕ, Bool, List, [], ◌∷◌, ◌++◌, map, length, refl, ap, ◌∙◌}
use Rattle.std.proofs.lemmas.List.{append-nil}
use Rattle.jpg_spec.specs.Elements.{UnitLeft}
use Rattle.jpg_spec.specs.FileMeaning.{no_blocks}
use Rattle.jpg_spec.specs.Geometry.{Frame, units, padded_blocks}
use Rattle.jpg_spec.specs.Scan.{Blocks, Scan, scan_coding, unit_at}
use Rattle.jpg_spec.specs.Segments.{ScanHead, head_components}
use Rattle.jpg_spec.specs.declared.frame.Place.{Place}
use Rattle.jpg_huff.specs.declared.set.TableSet.{TableSet}
use Rattle.jpg_coefs.specs.Picture.{Picture, map_of}
use Rattle.jpg_coefs.specs.Machine.{Interval, TakesBits}
use Rattle.jpg_coefs.specs.declared.machine.Taken.{Taken}
use Rattle.jpg_coefs.specs.declared.machine.Taken.TheVariants.{More, Units, IntervalDone, Fault}
use Rattle.jpg_coefs.proofs.Maps.{blank_is}
use Rattle.jpg_coefs.proofs.Chains.{chain_stands}
use Rattle.jpg_seq.specs.Reader.{IsOfScan, in_force, new_at, new_units_at, sequential}
use Rattle.jpg_seq.specs.declared.reader.SeqReader.{SeqReader}
use Rattle.test_parts.specs.Open.{IsBlank, IsOpen, GoesOn}

-- a scan of one interval
abbrev pub only_scan : Frame → ScanHead → TableSet → Scan
only_scan f head set = record { places = units f (head_components head); interval = 0; ss = 0; se = 63; coding = scan_coding f (in_force set) head }

abbrev pub only_interval : Frame → ScanHead → TableSet → Picture → Interval
only_interval f head set now = record { scan = only_scan f head set; places = units f (head_components head); later = []; before = now }

new_units : (f : Frame) (head : ScanHead) (set : TableSet) (places : List Place) → map (unit_at (only_scan f head set) no_blocks) places ≡ new_units_at places
new_units f head set [] = refl
new_units f head set (p ∷ places) = ap (λ (us : List UnitLeft). new_at p ∷ us) (new_units f head set places)

pub is_of_scan : (f : Frame) (head : ScanHead) (set : TableSet) (now : Picture) → now.frame ≡ f → IsBlank now → IsOfScan f head set (only_interval f head set now)
is_of_scan f head set now e blank =
    let zero : map_of now ≡ no_blocks = blank_is now (padded_blocks now.frame) blank in
    record {
      coding = refl;
      kind = record {
        units = ap (λ (b : Blocks). map (unit_at (only_scan f head set) b) (units f (head_components head))) zero ∙ new_units f head set (units f (head_components head));
        ss = refl;
        se = refl;
      };
      sized = λ k x y. ap (λ (b : Blocks). length (b k x y)) zero;
      places = append-nil (units f (head_components head));
      frame = e;
    }

-- bits of a store are taken, and the interval goes on
pub goes_on : (most : ℕ) (m new : SeqReader) (now after : Picture) (store rest : List Bool) (answer : Taken) → TakesBits sequential most m now store answer new after rest → IsOpen m now → GoesOn answer new after
goes_on most m new now after store rest More t o = (o.0, o.1 ++ t.0, chain_stands sequential m new now after o.0 o.1 t.0 t.2.0 o.2)
goes_on most m new now after store rest Units t o = tt
goes_on most m new now after store rest IntervalDone t o = tt
goes_on most m new now after store rest (Fault fault) t o = tt
