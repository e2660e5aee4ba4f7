-- CODINGS BY VALID TABLES (T.81, Annex C, F.1.2, G.1.2): what readers and writers of data may rely on.
use Rattle.std.specs.Prelude.{◌≡◌, ◌⊎◌, ℕ, ◌≤◌, true, List, [], Some}
use Rattle.jpg_spec.specs.Codes.{Code, codes, AreCodes, are_codes}
use Rattle.jpg_spec.specs.Segments.{HuffmanTable}
use Rattle.jpg_spec.specs.Elements.{Coding}
use Rattle.jpg_spec.specs.Scan.{TablesInForce}

-- the codes of a valid table, or none
abbrev pub AreTableCodes : List Code → Type 0
AreTableCodes table = (table ≡ []) ⊎ ((counts : List ℕ) × (symbols : List ℕ) × AreCodes 1 0 counts × (table ≡ codes counts symbols))

-- The codes are those of valid tables, and categories and runs fit the halves of a symbol.
pub record IsSound (c : Coding) : Type 0 where
  pub dc : (i : ℕ) → AreTableCodes (c.dc i)
  pub ac : (i : ℕ) → AreTableCodes (c.ac i)
  pub categories : c.most_category ≤ 15
  pub runs : c.most_run ≤ 14

-- each table in force is valid
abbrev pub AreTables : TablesInForce → Type 0
AreTables tables = (class slot : ℕ) (table : HuffmanTable) → tables class slot ≡ Some table → are_codes 1 0 table.counts ≡ true
