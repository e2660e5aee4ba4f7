-- The number of bytes of the data of a sequential scan: 496 for each unit, and four for each interval.
use Rattle.std.proofs.Common.{◌≡◌, ℕ, ◌+◌, ◌*◌, ◌≤◌, Bool, true, false, cond, List, [], ◌∷◌, length, refl, arith, lit≤, ℤ, ◌&&◌, pos}
use Rattle.std.specs.Prelude.{map, flat_map, nat_lt}
use Rattle.std.proofs.lemmas.List.{length-append}
use Rattle.jpg_spec.specs.Bits.{data_of}
use Rattle.jpg_spec.specs.Geometry.{Frame, bounds, is_progressive}
use Rattle.jpg_spec.specs.Segments.{HuffmanTable, ScanHead}
use Rattle.jpg_spec.specs.Elements.{Coding, UnitLeft, SpellsUnits, at_start, new_unit}
use Rattle.jpg_spec.specs.Scan.{part_of, scan_coding}
use Rattle.jpg_spec_write.specs.ScanText.{UnitDue, unit_elements}
use Rattle.jpg_spec.proofs.Basics.Small.{are_bounds}
use Rattle.jpg_spec.proofs.Basics.Each.{Each}
use Rattle.jpg_spec_write.specs.Written.{IsWritable, HasCode, all_in_force, sequential_bits}
use Rattle.jpg_spec_write.proofs.Sequential.{written_spells}
use Rattle.jpg_spec.proofs.Bits.DataLength.{table_short, IsBrief, AreLeft, covers_few, data_few}

-- UNITS of a coding whose codes are short
pub units_few : (c : Coding) (units : List UnitLeft) (told : List ℤ) (bits : List Bool) → IsBrief c → AreLeft units → SpellsUnits c units told bits → length bits ≤ 31 * length told
units_few c units told bits brief left k = covers_few c (at_start units) k.1 k.0 told bits brief left k.2

pub sequential_brief : (f : Frame) (tables : ℕ → ℕ → HuffmanTable) (head : ScanHead) → ((class slot : ℕ) → length (tables class slot).counts ≤ 16) → IsBrief (scan_coding f (all_in_force tables) head)
sequential_brief f tables head short = record {
  dc = λ i. table_short (tables 0 (part_of head i).dc).counts (tables 0 (part_of head i).dc).symbols (short 0 (part_of head i).dc);
  ac = λ i. table_short (tables 1 (part_of head i).ac).counts (tables 1 (part_of head i).ac).symbols (short 1 (part_of head i).ac);
  dc_cat = (are_bounds f.precision).dc_few;
  categories = categories (is_progressive f.process && nat_lt 0 head.ah);
  runs = runs (is_progressive f.process);
}
  where
    categories : (b : Bool) → cond b 1 (bounds f).ac_cat ≤ 14
    categories true = lit≤ tt
    categories false = (are_bounds f.precision).ac_few

    runs : (b : Bool) → cond b 14 0 ≤ 14
    runs true = lit≤ tt
    runs false = lit≤ tt

new_left : (due : List UnitDue) → AreLeft (map (λ (u : UnitDue). new_unit u.0) due)
new_left [] = tt
new_left (u ∷ due) = (lit≤ tt, new_left due)

due_told : (c : Coding) (due : List UnitDue) → Each (IsWritable c) due → length (flat_map (λ (u : UnitDue). u.1) due) ≡ 64 * length due
due_told c [] all = refl
due_told c (u ∷ due) all =
    let h = all.0 in
    omega (arith, h.0, length-append u.1 (flat_map (λ (u : UnitDue). u.1) due), due_told c due all.1)

-- AN INTERVAL
pub due_few : (f : Frame) (tables : ℕ → ℕ → HuffmanTable) (head : ScanHead) (due : List UnitDue) → is_progressive f.process ≡ false → ((class slot : ℕ) → length (tables class slot).counts ≤ 16)
    → Each (IsWritable (scan_coding f (all_in_force tables) head)) due → Each (HasCode tables head) (unit_elements true false 0 (λ i. pos 0) due) → length (data_of (sequential_bits tables head due)) ≤ 496 * length due + 2
due_few f tables head due e short ok coded =
    let c = scan_coding f (all_in_force tables) head in
    let bits = sequential_bits tables head due in
    let units = map (λ (u : UnitDue). new_unit u.0) due in
    let told = flat_map (λ (u : UnitDue). u.1) due in
    let few = units_few c units told bits (sequential_brief f tables head short) (new_left due) (written_spells f tables head due e ok coded) in
    omega (arith, few, due_told c due ok, data_few bits)
