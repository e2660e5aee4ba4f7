-- Huffman codes (T.81, Annex C, C.2).
use Rattle.std.specs.Prelude.{ℕ, zero, suc, drop, ◌+◌, ◌*◌, ◌^◌, ◌<◌, Bool, true, nat_lt, ◌&&◌, ◌==◌, if◌then◌else◌, List, [], ◌∷◌, ◌++◌, Option, Some, None, unwrap_or}
use Rattle.jpg_spec.specs.Bits.{bits_of}

-- a code: its bits, and its symbol
abbrev pub Code : Type 0
Code = List Bool × ℕ

-- this many codes of one length, numbered from c on, for the first of the symbols (Figures C.2 and C.3)
abbrev pub codes_at : ℕ → ℕ → ℕ → List ℕ → List Code
codes_at zero length c symbols = []
codes_at (suc count) length c [] = []
codes_at (suc count) length c (symbol ∷ symbols) = (bits_of length c, symbol) ∷ codes_at count length (c + 1) symbols

-- Codes of this length, of the next, and so on, by how many there are of each (Figure C.1). The first one is numbered
-- c. A step to the next length doubles the next number (Figure C.2).
abbrev pub codes_from : ℕ → ℕ → List ℕ → List ℕ → List Code
codes_from length c [] symbols = []
codes_from length c (count ∷ counts) symbols = codes_at count length c symbols ++ codes_from (length + 1) (2 * (c + count)) counts (drop count symbols)

-- the codes of a table: how many there are of lengths 1, 2 and so on, and the symbols in order (C.2, Figures C.1 to
-- C.3)
unfoldable pub codes : List ℕ → List ℕ → List Code
codes counts symbols = codes_from 1 0 counts symbols

-- each code fits its length, and none is all ones (C.2)
abbrev pub AreCodes : ℕ → ℕ → List ℕ → Type 0
AreCodes length c [] = Unit {0}
AreCodes length c (count ∷ counts) = (c + count < 2 ^ length) × AreCodes (length + 1) (2 * (c + count)) counts

-- whether each code fits its length and none is all ones
unfoldable pub are_codes : ℕ → ℕ → List ℕ → Bool
are_codes length c [] = true
are_codes length c (count ∷ counts) = nat_lt (c + count) (2 ^ length) && are_codes (length + 1) (2 * (c + count)) counts

-- the first code of a symbol
abbrev pub first_code : List Code → ℕ → Option (List Bool)
first_code [] symbol = None
first_code (code ∷ rest) symbol = if code.1 == symbol then Some code.0 else first_code rest symbol

abbrev pub code_of : List Code → ℕ → List Bool
code_of codes symbol = unwrap_or (first_code codes symbol) []
