-- Rows of samples of one component that are kept, and the rows made of blocks.
use Rattle.std.specs.Prelude.{◌≡◌, ℕ, ◌+◌, ◌-◌, ◌*◌, ◌/◌, ◌%◌, ◌<◌, ◌≤◌, List, ◌++◌, length, map, take, drop, slice_index}
use Rattle.jpg_spec.specs.Lists.{below}
use Rattle.jpg_spec.specs.Geometry.{bounds, component_at, div_up}
use Rattle.jpg_spec.specs.FrameHeader.{padded_across, padded_down}
use Rattle.jpg_spec.specs.Segments.{QuantTable}
use Rattle.jpg_spec.specs.Scan.{Blocks}
use Rattle.jpg_spec.specs.Ranges.{AreInRange}
use Rattle.jpg_spec_image.specs.Dct.{dequantised, inverse_dct}
use Rattle.jpg_coefs.specs.Picture.{Picture, map_of}
use Rattle.jpg_color.specs.declared.decode.sample_rows.ComponentRows.{ComponentRows}

-- at most `room` rows of `wide` samples
pub record KeptRows : Type 0 where
  pub wide : ℕ
  pub room : ℕ
  pub rows : List (List ℕ)

-- rows in their order of storage, each at a multiple of 8 bytes, so that 8 samples of a block are stored at once
abbrev pub stride : ℕ → ℕ
stride wide = 8 * div_up wide 8

abbrev pub kept_rows_of : ℕ → ℕ → List ℕ → List (List ℕ)
kept_rows_of wide count samples = map (λ r. take wide (drop (r * stride wide) samples)) (below count)

-- The sample at column x and row y below the top of row `first` of the blocks of component i.
abbrev pub sample_in : QuantTable → Blocks → ℕ → ℕ → ℕ → ℕ → ℕ
sample_in quants blocks i first y x = slice_index (inverse_dct (dequantised quants (blocks i (x / 8) (first + y / 8)))) (8 * (y % 8) + x % 8)

abbrev pub sample_of : ComponentRows → ℕ → ℕ → ℕ
sample_of rows = sample_in rows.quants.now (map_of rows.coefs.now) rows.component rows.first

abbrev pub row_in : ℕ → QuantTable → Blocks → ℕ → ℕ → ℕ → List ℕ
row_in wide quants blocks i first y = map (sample_in quants blocks i first y) (below wide)

-- the last of the rows, or none
abbrev pub last_row : List (List ℕ) → List (List ℕ)
last_row rows = drop (length rows - 1) rows

-- The last row that is kept remains. After it come `count` rows made of blocks.
abbrev pub with_block_rows : KeptRows → QuantTable → Blocks → ℕ → ℕ → ℕ → KeptRows
with_block_rows kept quants blocks i first count =
    record kept { rows = last_row kept.rows ++ map (row_in kept.wide quants blocks i first) (below count) }

-- After the last row that is kept come `count` rows of zero blocks, whose samples are all 128.
abbrev pub with_gray : KeptRows → ℕ → KeptRows
with_gray kept count = record kept { rows = last_row kept.rows ++ map (λ y. map (λ x. 128) (below kept.wide)) (below count) }

-- There are blocks for `count` rows of `wide` samples of component i, from row `first` of its blocks on. The samples have
-- 8 bits.
pub record HasRows (q : Picture) (i first wide count : ℕ) : Type 0 where
  pub component : i < length q.frame.components
  pub across : div_up wide 8 ≤ padded_across q.frame (component_at q.frame i)
  pub down : first + div_up count 8 ≤ padded_down q.frame (component_at q.frame i)
  pub precision : q.frame.precision ≡ 8
  pub range : AreInRange (bounds q.frame) (map_of q)
