-- Sound codings: their data are spelled in one way.
use Rattle.std.proofs.Common.{◌≡◌, ℕ, ◌+◌, ◌*◌, ◌^◌, ◌≤◌, Bool, true, false, cond, List, [], ◌∷◌, ◌++◌, length, Some, None, Option, refl, sym, ◌∙◌, subst, arith, lit≤, inl, inr, ◌&&◌, ℤ}
use Rattle.std.specs.Prelude.{nat_lt}
use Rattle.jpg_spec.specs.Bits.{Packs}
use Rattle.jpg_spec.specs.Codes.{Code, codes, AreCodes, are_codes}
use Rattle.jpg_spec.specs.Geometry.{Frame, bounds, is_progressive}
use Rattle.jpg_spec.specs.Segments.{HuffmanTable, ScanHead}
use Rattle.jpg_spec.specs.Elements.{Coding, UnitLeft, SpellsUnits, at_start}
use Rattle.jpg_spec.specs.Scan.{TablesInForce, codes_of, scan_coding, part_of}
use Rattle.jpg_spec.specs.ScanFaults.{DataReveals}
use Rattle.jpg_spec.specs.Typical.{dc_luma_counts, dc_luma_values, ac_luma_counts, ac_luma_values, dc_chroma_counts, dc_chroma_values, ac_chroma_counts, ac_chroma_values}
use Rattle.jpg_spec.specs.Sound.{AreTableCodes, IsSound, AreTables}
use Rattle.jpg_spec.specs.declared.fault.Fault.{Fault}
use Rattle.jpg_spec.proofs.Bits.Levels.{contains_none}
use Rattle.jpg_spec.proofs.Bits.OneCode.{one_code}
use Rattle.jpg_spec.proofs.Bits.Once.{BeginsElements, Decodes, OneWay, units_once}
use Rattle.jpg_spec.proofs.Bits.Excludes.{data_excludes}
use Rattle.jpg_spec.proofs.Basics.Facts.{facts}
use Rattle.jpg_spec.proofs.Headers.Precisions.{of_bounds}
use Rattle.jpg_spec.proofs.Basics.Common.{both, lt_of}

-- what passes the test are codes
pub tested_codes : (length c : ℕ) (counts : List ℕ) → are_codes length c counts ≡ true → AreCodes length c counts
unfolding are_codes
tested_codes length c [] e = tt
tested_codes length c (count ∷ counts) e =
    let b = both (nat_lt (c + count) (2 ^ length)) (are_codes (length + 1) (2 * (c + count)) counts) e in
    (lt_of (c + count) (2 ^ length) b.0, tested_codes (length + 1) (2 * (c + count)) counts b.1)

pub one_table : (counts symbols : List ℕ) → AreCodes 1 0 counts → OneWay (codes counts symbols)
unfolding codes
one_table counts symbols are = λ a b x y h k e. one_code counts 1 0 symbols a b x y are h k e

pub one_way : (table : List Code) → AreTableCodes table → OneWay table
one_way table (inl e) = subst (λ t. OneWay t) (sym e) (λ a b x y h k e. absurd (contains_none a h))
one_way table (inr t) = subst (λ t. OneWay t) (sym t.3) (one_table t.0 t.1 t.2)

pub one_due : (c : Coding) (u : UnitLeft) (has_dc : Bool) → IsSound c → OneWay (cond has_dc (c.dc u.component) (c.ac u.component))
one_due c u true s = one_way (c.dc u.component) (s.dc u.component)
one_due c u false s = one_way (c.ac u.component) (s.ac u.component)

pub decodes : (c : Coding) → IsSound c → Decodes c
decodes c s = record { facts = facts; fits = (s.categories, s.runs); one = λ u. one_due c u u.has_dc s }

-- THE LAWS
pub spelled_once : (c : Coding) (units : List UnitLeft) (told told' : List ℤ) (bits cits x y : List Bool) → IsSound c
    → SpellsUnits c units told bits → SpellsUnits c units told' cits → bits ++ x ≡ cits ++ y → (told ≡ told') × (bits ≡ cits)
spelled_once c units told told' bits cits x y s h k e =
    let a : BeginsElements c (at_start units) h.0 (bits ++ x) = record { told = told; front = bits; rest = x; standing = h.1; cut = refl; covers = h.2 } in
    let b : BeginsElements c (at_start units) k.0 (bits ++ x) = record { told = told'; front = cits; rest = y; standing = k.1; cut = e; covers = k.2 } in
    let r = units_once c (at_start units) h.0 k.0 (bits ++ x) (decodes c s) a h.3 b k.3 in
    (r.1, r.2)

pub fault_excludes : (c : Coding) (units : List UnitLeft) (fault : Fault) (told : List ℤ) (bits cits x y : List Bool) → IsSound c
    → DataReveals c units fault bits → SpellsUnits c units told cits → bits ++ x ≡ cits ++ y → ⊥
fault_excludes c units fault told bits cits x y s d k e =
    data_excludes c units fault bits cits x y told (decodes c s) d k e

pub packed_once : (c : Coding) (units : List UnitLeft) (told told' : List ℤ) (bits cits : List Bool) (coded : List ℕ) → IsSound c
    → Packs bits coded → SpellsUnits c units told bits → Packs cits coded → SpellsUnits c units told' cits → (told ≡ told') × (bits ≡ cits)
packed_once c units told told' bits cits coded s p h q k = spelled_once c units told told' bits cits p.0 q.0 s h k (sym p.2 ∙ q.2)

-- CODINGS OF SCANS are sound where their tables are valid
valid_codes : (o : Option HuffmanTable) → ((table : HuffmanTable) → o ≡ Some table → are_codes 1 0 table.counts ≡ true) → AreTableCodes (codes_of o)
valid_codes None h = inl refl
valid_codes (Some table) h = inr (table.counts, table.symbols, tested_codes 1 0 table.counts (h table refl), refl)

few_categories : (refines : Bool) (ac_cat : ℕ) → ac_cat ≤ 14 → cond refines 1 ac_cat ≤ 15
few_categories true n h = lit≤ tt
few_categories false n h = omega (arith, h)

few_runs : (is_prog : Bool) → cond is_prog 14 0 ≤ 14
few_runs true = lit≤ tt
few_runs false = lit≤ tt

pub sound_where : (f : Frame) (tables : TablesInForce) (head : ScanHead) → (bounds f).ac_cat ≤ 14 → AreTables tables → IsSound (scan_coding f tables head)
sound_where f tables head few h = record {
  dc = λ i. valid_codes (tables 0 (part_of head i).dc) (h 0 (part_of head i).dc);
  ac = λ i. valid_codes (tables 1 (part_of head i).ac) (h 1 (part_of head i).ac);
  categories = few_categories (is_progressive f.process && nat_lt 0 head.ah) (bounds f).ac_cat few;
  runs = few_runs (is_progressive f.process);
}

pub sound : (f : Frame) (tables : TablesInForce) (head : ScanHead) → AreTables tables → IsSound (scan_coding f tables head)
sound f tables head h = sound_where f tables head (of_bounds (λ b. b.ac_cat ≤ 14) (lit≤ tt) (lit≤ tt) f.precision) h

-- THE TYPICAL TABLES are valid
abbrev pub chosen : Bool → Bool → HuffmanTable
chosen is_dc is_first =
    cond is_dc (cond is_first (record { counts = dc_luma_counts; symbols = dc_luma_values }) (record { counts = dc_chroma_counts; symbols = dc_chroma_values }))
    (cond is_first (record { counts = ac_luma_counts; symbols = ac_luma_values }) (record { counts = ac_chroma_counts; symbols = ac_chroma_values }))

pub typical_by : (is_dc is_first : Bool) → are_codes 1 0 (chosen is_dc is_first).counts ≡ true
unfolding are_codes
typical_by true true = refl
typical_by true false = refl
typical_by false true = refl
typical_by false false = refl
