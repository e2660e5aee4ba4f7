-- The contents of marker segments: quantisation tables, Huffman tables and scan headers (T.81, B.2.3, B.2.4).
use Rattle.std.specs.Prelude.{ℕ, ◌*◌, ◌+◌, ◌^◌, Bool, not, nat_lt, ◌==◌, ◌&&◌, ◌||◌, List, map, ◌≡◌, ◌<◌, ◌≤◌, length, All}
use Rattle.jpg_spec.specs.Codes.{Code, codes}
use Rattle.jpg_spec.specs.declared.frame.ScanPart.{ScanPart}
use Rattle.jpg_spec.specs.declared.frame.Limits.{Limits}

-- the standard limits
abbrev pub standard_limits : Limits
standard_limits = record { side = 65500; blocks = 8388608; kept = 2 ^ 28; input = 2 ^ 40 }

-- a number of two bytes
abbrev pub two_bytes : ℕ → ℕ → ℕ
two_bytes high low = 256 * high + low

-- 64 quantisers in zigzag order (B.2.4.1)
abbrev pub QuantTable : Type 0
QuantTable = List ℕ

-- how many codes there are of each length from 1 to 16, and their symbols in order: BITS and HUFFVAL of B.2.4.2 and C.1
pub record HuffmanTable : Type 0 where
  pub counts : List ℕ
  pub symbols : List ℕ

abbrev pub table_codes : HuffmanTable → List Code
table_codes table = codes table.counts table.symbols

-- A scan header: the components with their table slots, the band ss to se, and the bits ah and al (B.2.3).
pub record ScanHead : Type 0 where
  pub parts : List ScanPart
  pub ss : ℕ
  pub se : ℕ
  pub ah : ℕ
  pub al : ℕ

abbrev pub head_components : ScanHead → List ℕ
head_components head = map (λ p. p.component) head.parts

-- which tables a scan needs, by its process, ss and ah (G.1.2): DC tables in a first pass of DC, AC tables if its band
-- begins after DC
abbrev pub needs_dc : Bool → ℕ → ℕ → Bool
needs_dc is_prog ss ah = not is_prog || ss == 0 && ah == 0

abbrev pub needs_ac : Bool → ℕ → Bool
needs_ac is_prog ss = not is_prog || nat_lt 0 ss

-- 64 quantisers of two bytes, none of them 0
abbrev pub IsQuantiser : ℕ → Type 0
IsQuantiser q = (1 ≤ q) × (q < 65536)

abbrev pub AreQuantisers : List ℕ → Type 0
AreQuantisers quants = (length quants ≡ 64) × All IsQuantiser quants
