-- The checks of a frame header in their order, and the padded grids (T.81, B.2.2).
use Rattle.std.specs.Prelude.{◌≡◌, ℕ, ◌*◌, ◌≤◌, Bool, true, nat_lt, not, ◌||◌, ◌==◌, List, length, map, All, Ok}
use Rattle.jpg_spec.specs.Lists.{any_of, is_distinct}
use Rattle.jpg_spec.specs.Faults.{Parsed, refuse}
use Rattle.jpg_spec.specs.Segments.{standard_limits}
use Rattle.jpg_spec.specs.Geometry.{Frame, mcus_across, mcus_down, blocks_across, blocks_down, padded_blocks}
use Rattle.jpg_spec.specs.declared.fault.Fault.TheVariants.{EmptyImage, TooLarge, Precision, ComponentCount, Sampling, DuplicateComponent, QuantSlot, TooManyBlocks}
use Rattle.jpg_spec.specs.declared.frame.Process.{Process}
use Rattle.jpg_spec.specs.declared.frame.Process.TheVariants.{Baseline}
use Rattle.jpg_spec.specs.declared.frame.Component.{Component}
use Rattle.jpg_spec.specs.declared.frame.Limits.{Limits}
use Rattle.jpg_spec.specs.declared.frame.Grid.{Grid}

-- THE CHECKS

abbrev pub has_bad_factor : Component → Bool
has_bad_factor c = c.h == 0 || (nat_lt 4 c.h || (c.v == 0 || nat_lt 4 c.v))

abbrev pub has_bad_slot : Component → Bool
has_bad_slot c = nat_lt 3 c.quant

abbrev pub identifiers : List Component → List ℕ
identifiers components = map (λ c. c.id) components

-- 8 bits, or 12 where the process isn't baseline (T.81, B.2.2, Table B.2)
abbrev pub is_precision : Process → ℕ → Bool
is_precision Baseline precision = precision == 8
is_precision other precision = precision == 8 || precision == 12

unfoldable pub checked_frame : Limits → Frame → Parsed Frame
checked_frame limits f =
    refuse EmptyImage (f.width == 0 || f.height == 0)
    (refuse TooLarge (nat_lt limits.side f.width || nat_lt limits.side f.height)
    (refuse Precision (not (is_precision f.process f.precision))
    (refuse ComponentCount (length f.components == 0 || nat_lt 4 (length f.components))
    (refuse Sampling (any_of has_bad_factor f.components)
    (refuse DuplicateComponent (not (is_distinct (identifiers f.components)))
    (refuse QuantSlot (any_of has_bad_slot f.components)
    (refuse TooManyBlocks (nat_lt limits.blocks (padded_blocks f))
    (Ok f))))))))

-- WHAT THE CHECKS GUARANTEE for the standard limits

pub record HasFactors (c : Component) : Type 0 where
  pub h_low : 1 ≤ c.h
  pub h_high : c.h ≤ 4
  pub v_low : 1 ≤ c.v
  pub v_high : c.v ≤ 4

pub record IsFrame (f : Frame) : Type 0 where
  pub width_low : 1 ≤ f.width
  pub width_high : f.width ≤ 65500
  pub height_low : 1 ≤ f.height
  pub height_high : f.height ≤ 65500
  pub precision : is_precision f.process f.precision ≡ true
  pub count_low : 1 ≤ length f.components
  pub count_high : length f.components ≤ 4
  pub factors : All HasFactors f.components
  pub distinct : is_distinct (identifiers f.components) ≡ true
  pub slots : All (λ c. c.quant ≤ 3) f.components
  pub blocks : padded_blocks f ≤ 8388608

-- limits that don't exceed the standard ones, and admit a byte of input
pub record AreLimits (limits : Limits) : Type 0 where
  pub side : limits.side ≤ standard_limits.side
  pub blocks : limits.blocks ≤ standard_limits.blocks
  pub kept : limits.kept ≤ standard_limits.kept
  pub input : limits.input ≤ standard_limits.input
  pub some : 1 ≤ limits.input

-- THE GRIDS

-- the padded blocks of a component: its factors times the MCUs (A.2.4)
abbrev pub padded_across : Frame → Component → ℕ
padded_across f c = mcus_across f * c.h

abbrev pub padded_down : Frame → Component → ℕ
padded_down f c = mcus_down f * c.v

abbrev pub mcu_grid : Frame → Grid
mcu_grid f = record { wide = mcus_across f; high = mcus_down f }

abbrev pub real_grid : Frame → Component → Grid
real_grid f c = record { wide = blocks_across f c; high = blocks_down f c }

abbrev pub padded_grid : Frame → Component → Grid
padded_grid f c = record { wide = padded_across f c; high = padded_down f c }
