-- QUANTISERS by quality: the typical tables (T.81, Annex K, K.1), and release 6b's scale.
use Rattle.std.specs.Prelude.{ℕ, ◌+◌, ◌-◌, ◌*◌, ◌/◌, max, min, Bool, nat_lt, if◌then◌else◌, List, [], ◌∷◌, map, slice_index}
use Rattle.jpg_spec.specs.Zigzag.{zigzag}
use Rattle.jpg_spec.specs.Segments.{QuantTable}

-- Table K.1, luminance, row by row
abbrev pub luminance_rows : List ℕ
luminance_rows =
    16 ∷ 11 ∷ 10 ∷ 16 ∷ 24 ∷ 40 ∷ 51 ∷ 61 ∷
    12 ∷ 12 ∷ 14 ∷ 19 ∷ 26 ∷ 58 ∷ 60 ∷ 55 ∷
    14 ∷ 13 ∷ 16 ∷ 24 ∷ 40 ∷ 57 ∷ 69 ∷ 56 ∷
    14 ∷ 17 ∷ 22 ∷ 29 ∷ 51 ∷ 87 ∷ 80 ∷ 62 ∷
    18 ∷ 22 ∷ 37 ∷ 56 ∷ 68 ∷ 109 ∷ 103 ∷ 77 ∷
    24 ∷ 35 ∷ 55 ∷ 64 ∷ 81 ∷ 104 ∷ 113 ∷ 92 ∷
    49 ∷ 64 ∷ 78 ∷ 87 ∷ 103 ∷ 121 ∷ 120 ∷ 101 ∷
    72 ∷ 92 ∷ 95 ∷ 98 ∷ 112 ∷ 100 ∷ 103 ∷ 99 ∷ []

-- Table K.2, chrominance
abbrev pub chrominance_rows : List ℕ
chrominance_rows =
    17 ∷ 18 ∷ 24 ∷ 47 ∷ 99 ∷ 99 ∷ 99 ∷ 99 ∷
    18 ∷ 21 ∷ 26 ∷ 66 ∷ 99 ∷ 99 ∷ 99 ∷ 99 ∷
    24 ∷ 26 ∷ 56 ∷ 99 ∷ 99 ∷ 99 ∷ 99 ∷ 99 ∷
    47 ∷ 66 ∷ 99 ∷ 99 ∷ 99 ∷ 99 ∷ 99 ∷ 99 ∷
    99 ∷ 99 ∷ 99 ∷ 99 ∷ 99 ∷ 99 ∷ 99 ∷ 99 ∷
    99 ∷ 99 ∷ 99 ∷ 99 ∷ 99 ∷ 99 ∷ 99 ∷ 99 ∷
    99 ∷ 99 ∷ 99 ∷ 99 ∷ 99 ∷ 99 ∷ 99 ∷ 99 ∷
    99 ∷ 99 ∷ 99 ∷ 99 ∷ 99 ∷ 99 ∷ 99 ∷ 99 ∷ []

-- in zigzag order, in which tables are stored
abbrev pub in_zigzag : List ℕ → QuantTable
in_zigzag rows = map (slice_index rows) zigzag

abbrev pub luminance_table : QuantTable
luminance_table = in_zigzag luminance_rows

abbrev pub chrominance_table : QuantTable
chrominance_table = in_zigzag chrominance_rows

-- the percentage of a quality from 1 to 100: 100 at 50, larger for lower qualities, and 0 at 100
abbrev pub quality_scale : ℕ → ℕ
quality_scale quality = if nat_lt quality 50 then 5000 / quality else 200 - 2 * quality

-- the greatest quantiser: of one byte if a baseline file is asked for
abbrev pub most_quantiser : Bool → ℕ
most_quantiser baseline = if baseline then 255 else 32767

-- a percentage of a quantiser, rounded, and at least 1
abbrev pub scaled_quantiser : ℕ → Bool → ℕ → ℕ
scaled_quantiser scale baseline q = max 1 (min ((q * scale + 50) / 100) (most_quantiser baseline))

abbrev pub scaled_table : ℕ → Bool → QuantTable → QuantTable
scaled_table scale baseline table = map (scaled_quantiser scale baseline) table
