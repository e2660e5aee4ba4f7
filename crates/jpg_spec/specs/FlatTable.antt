-- The flat table of some symbols: codes of one length, in their order (T.81, Annex C, C.2).
use Rattle.std.specs.Prelude.{ℕ, zero, suc, ◌+◌, ◌-◌, ◌^◌, nat_lt, if◌then◌else◌, List, ◌∷◌, ◌++◌, length, replicate}
use Rattle.jpg_spec.specs.Segments.{HuffmanTable}

-- the least length that has more codes than there are symbols
abbrev pub flat_length_from : ℕ → ℕ → ℕ → ℕ
flat_length_from zero length n = length
flat_length_from (suc most) length n = if nat_lt n (2 ^ length) then length else flat_length_from most (length + 1) n

-- all symbols with codes of that length
unfoldable pub flat_table : List ℕ → HuffmanTable
flat_table symbols =
    let size = flat_length_from 8 1 (length symbols) in
    record { counts = replicate (size - 1) 0 ++ length symbols ∷ replicate (16 - size) 0; symbols = symbols }
