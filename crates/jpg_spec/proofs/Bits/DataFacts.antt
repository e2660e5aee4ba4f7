-- The contents or the faults of the data bytes of an interval, with more bytes after them.
use Rattle.std.proofs.Common.{◌≡◌, ℕ, List, [], ◌∷◌, ◌++◌, length, refl, sym, ap, ◌∙◌, arith, Bool}
use Rattle.std.specs.Prelude.{map}
use Rattle.std.proofs.lemmas.List.{append_assoc, append_cancel_left, length-append}
use Rattle.std.proofs.lemmas.List.Concat.{flat_map-append}
use Rattle.jpg_spec.specs.Bits.{bits_of, bits_of_bytes}
use Rattle.jpg_spec.specs.Elements.{Coding, UnitLeft}
use Rattle.jpg_spec.specs.Scan.{Blocks, Scan, unit_at}
use Rattle.jpg_spec.specs.ScanFaults.{DataReveals}
use Rattle.jpg_spec.specs.Sound.{IsSound}
use Rattle.jpg_spec.specs.FirstFault.{HoldsUnits}
use Rattle.jpg_spec.specs.declared.fault.Fault.{Fault}
use Rattle.jpg_spec.specs.declared.frame.Place.{Place}
use Rattle.jpg_spec.proofs.Basics.Strings.{length-bits_of}
use Rattle.jpg_spec.proofs.Bits.Sound.{spelled_once, fault_excludes}
use Rattle.jpg_spec.specs.UnfinishedFile.{Completes}

pub bits_join : (a b : List ℕ) → bits_of_bytes (a ++ b) ≡ bits_of_bytes a ++ bits_of_bytes b
bits_join a b = flat_map-append (bits_of 8) a b

pub shows_more : (c : Coding) (units : List UnitLeft) (fault : Fault) (bits more : List Bool) → DataReveals c units fault bits → DataReveals c units fault (bits ++ more)
shows_more c units fault bits more d = record {
  elements = d.elements;
  told = d.told;
  front = d.front;
  here = d.here;
  rest = d.rest ++ more;
  standing = d.standing;
  unit = d.unit;
  others = d.others;
  cut = ap (λ l. l ++ more) d.cut ∙ append_assoc (d.front ++ d.here) d.rest more;
  covers = d.covers;
  left = d.left;
  codes = d.codes;
  shows = d.shows;
}

pub holds_more : (s : Scan) (before : Blocks) (places : List Place) (coded more : List ℕ) → HoldsUnits s before places coded → HoldsUnits s before places (coded ++ more)
holds_more s before places coded more h =
    (h.0, (h.1.0, h.1.1 ++ bits_of_bytes more, bits_join coded more ∙ ap (λ l. l ++ bits_of_bytes more) h.1.2 ∙ append_assoc h.1.0 h.1.1 (bits_of_bytes more), h.1.3))

pub completes_holds : (s : Scan) (before : Blocks) (places : List Place) (coded : List ℕ) → Completes s before places coded → HoldsUnits s before places coded
completes_holds s before places coded c = (c.0, (c.1.0, c.1.1.0, c.1.1.2, c.1.2))

-- data that have a fault don't have all units, with any more bytes
pub shown_not_held : (s : Scan) (before : Blocks) (places : List Place) (fault : Fault) (coded more : List ℕ) → IsSound s.coding
    → DataReveals s.coding (map (unit_at s before) places) fault (bits_of_bytes coded) → HoldsUnits s before places (coded ++ more) → ⊥
shown_not_held s before places fault coded more sound d h =
    fault_excludes s.coding (map (unit_at s before) places) fault h.0 (bits_of_bytes coded) h.1.0 (bits_of_bytes more) h.1.1 sound d h.1.3 (sym (bits_join coded more) ∙ h.1.2)

-- nor are they a complete interval
pub shown_not_complete : (s : Scan) (before : Blocks) (places : List Place) (fault : Fault) (coded more : List ℕ) → IsSound s.coding
    → DataReveals s.coding (map (unit_at s before) places) fault (bits_of_bytes coded) → Completes s before places (coded ++ more) → ⊥
shown_not_complete s before places fault coded more sound d c = shown_not_held s before places fault coded more sound d (completes_holds s before places (coded ++ more) c)

-- after data that have all units no further byte belongs to the interval
pub too_long : (s : Scan) (before : Blocks) (places : List Place) (byte : ℕ) (coded more : List ℕ) → IsSound s.coding
    → HoldsUnits s before places coded → Completes s before places (coded ++ byte ∷ more) → ⊥
too_long s before places byte coded more sound h c =
    let further : List Bool = bits_of_bytes (byte ∷ more) in
    let all : h.1.0 ++ (h.1.1 ++ further) ≡ c.1.0 ++ c.1.1.0 = sym (append_assoc h.1.0 h.1.1 further) ∙ ap (λ l. l ++ further) (sym h.1.2) ∙ sym (bits_join coded (byte ∷ more)) ∙ c.1.1.2 in
    let same = spelled_once s.coding (map (unit_at s before) places) h.0 c.0 h.1.0 c.1.0 (h.1.1 ++ further) c.1.1.0 sound h.1.3 c.1.2 all in
    let pads : h.1.1 ++ further ≡ c.1.1.0 = append_cancel_left h.1.0 (h.1.1 ++ further) c.1.1.0 (all ∙ ap (λ l. l ++ c.1.1.0) (sym same.1)) in
    let l1 = ap length pads in
    let l2 = length-append h.1.1 further in
    let l3 = length-append (bits_of 8 byte) (bits_of_bytes more) in
    let l4 = length-bits_of 8 byte in
    let few = c.1.1.1 in
    omega (arith, l1, l2, l3, l4, few)

-- of two complete intervals none begins the other
pub completes_once : (s : Scan) (before : Blocks) (places : List Place) (coded more : List ℕ) → IsSound s.coding
    → Completes s before places coded → Completes s before places (coded ++ more) → more ≡ []
completes_once s before places coded [] sound a b = refl
completes_once s before places coded (byte ∷ more) sound a b = absurd (too_long s before places byte coded more sound (completes_holds s before places coded a) b)
