-- Terms of the worked examples of tables made for counts.
use Rattle.std.specs.Prelude.{ℕ, ◌-◌, List, [], ◌∷◌, ◌++◌, length, replicate}
use Rattle.jpg_spec.specs.Segments.{HuffmanTable}

-- a table with these counts, and 0 for the longer sizes
abbrev pub table_with : List ℕ → List ℕ → HuffmanTable
table_with counts symbols = record { counts = counts ++ replicate (16 - length counts) 0; symbols = symbols }

-- 18 counts, each twice the one before
abbrev pub doubling : List ℕ
doubling = 1 ∷ 2 ∷ 4 ∷ 8 ∷ 16 ∷ 32 ∷ 64 ∷ 128 ∷ 256 ∷ 512 ∷ 1024 ∷ 2048 ∷ 4096 ∷ 8192 ∷ 16384 ∷ 32768 ∷ 65536 ∷ 131072 ∷ []
