-- The numbers of a frame as definitions see them, and the invariant of a Frame.
use Rattle.std.specs.Prelude.{◌≡◌, ℕ, ◌*◌, ◌≤◌, List, map, sum_by}
use Rattle.jpg_spec.specs.Geometry.{Frame, greatest, h_max, v_max}
use Rattle.jpg_spec.specs.FrameHeader.{IsFrame}
use Rattle.jpg_spec.specs.declared.frame.Process.{Process}
use Rattle.jpg_spec.specs.declared.frame.Component.{Component}

abbrev pub numbers_of : Process → ℕ → ℕ → ℕ → List Component → Frame
numbers_of process precision width height components =
    record { process = process; precision = precision; width = width; height = height; components = components }

-- the greatest factors of a list of components
abbrev pub greatest_across : List Component → ℕ
greatest_across components = greatest (map (λ c. c.h) components)

abbrev pub greatest_down : List Component → ℕ
greatest_down components = greatest (map (λ c. c.v) components)

-- the blocks of all padded grids, from the MCUs across and down
abbrev pub blocks_of : ℕ → ℕ → List Component → ℕ
blocks_of wide high components = sum_by (λ c. (wide * c.h) * (high * c.v)) components

-- a frame that passed the checks, kept with its greatest factors
pub record IsCheckedFrame (f : Frame) (most_across : ℕ) (most_down : ℕ) : Type 0 where
  pub checked : IsFrame f
  pub across : most_across ≡ h_max f
  pub down : most_down ≡ v_max f
  pub across_low : 1 ≤ most_across
  pub across_high : most_across ≤ 4
  pub down_low : 1 ≤ most_down
  pub down_high : most_down ≤ 4
