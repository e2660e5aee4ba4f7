-- The state after some of a file was written, and the effect of a segment.
use Rattle.std.proofs.Common.{◌≡◌, ℕ, ◌+◌, ◌*◌, ◌<◌, List, [], ◌∷◌, ◌++◌, length}
use Rattle.std.specs.Prelude.{Ok}
use Rattle.jpg_spec.specs.Segments.{HuffmanTable}
use Rattle.jpg_spec.specs.HuffContents.{huffman_tables}

abbrev pub table_contents : ℕ → ℕ → HuffmanTable → List ℕ
table_contents class slot table = (16 * class + slot) ∷ table.counts ++ table.symbols

-- its segment encodes it
pub record IsTellable (class slot : ℕ) (table : HuffmanTable) : Type 0 where
  pub told : huffman_tables (table_contents class slot table) ≡ Ok (record { class = class; slot = slot; table = table } ∷ [])
  pub short : length (table_contents class slot table) + 2 < 65536
