-- A PICTURE CROPPED to an area (the manual of libjpeg-turbo's jpegtran, `-crop`). The upper left corner of the area moves
-- left and up to the grid of iMCUs (T.81, A.2), its lower right corner stays, and the blocks of the iMCUs to the left of
-- it and above it are left out.
use Rattle.std.specs.Prelude.{ℕ, ◌+◌, ◌-◌, ◌*◌, ◌/◌, ◌≤◌, Bool, nat_lt, nat_le, ◌&&◌, if◌then◌else◌, Option, None, Some}
use Rattle.jpg_spec.specs.Geometry.{Frame, component_at, h_max, v_max}
use Rattle.jpg_spec.specs.Meaning.{Meaning, component_of, most_across, most_down, real_alone}
use Rattle.jpg_spec_move.specs.declared.area.Area.{Area}
use Rattle.jpg_spec_write.specs.declared.picture_fault.PictureFault.{PictureFault}
use Rattle.jpg_spec_write.specs.declared.picture_fault.PictureFault.TheVariants.{CropOutside}

-- ALONG ONE SIDE, where an iMCU has this many samples

-- a corner moved left or up to the grid
abbrev pub on_grid : ℕ → ℕ → ℕ
on_grid mcu corner = mcu * (corner / mcu)

-- from there to the opposite corner
abbrev pub cropped_side : ℕ → ℕ → ℕ → ℕ
cropped_side mcu corner side = corner - on_grid mcu corner + side

-- THE PICTURE

-- the columns and rows of a component in the iMCUs that are left out
abbrev pub columns_before : Area → Meaning → ℕ → ℕ
columns_before area M i = (area.x / (8 * most_across M)) * (component_of M i).h

abbrev pub rows_before : Area → Meaning → ℕ → ℕ
rows_before area M i = (area.y / (8 * most_down M)) * (component_of M i).v

abbrev pub cropped : Area → Meaning → Meaning
cropped area M = real_alone (record M {
  width = cropped_side (8 * most_across M) area.x area.w;
  height = cropped_side (8 * most_down M) area.y area.h;
  blocks = λ i x y. M.blocks i (x + columns_before area M i) (y + rows_before area M i);
})

abbrev pub cropped_by : Option Area → Meaning → Meaning
cropped_by None M = M
cropped_by (Some area) M = cropped area M

-- WHETHER THERE IS AN AREA to crop to: it has samples, and all of them are in a picture of these sides.
abbrev pub is_area_of : Area → ℕ → ℕ → Bool
is_area_of area width height =
    (nat_lt 0 area.w && nat_lt 0 area.h) && (nat_le (area.x + area.w) width && nat_le (area.y + area.h) height)

abbrev pub is_inside : Area → Meaning → Bool
is_inside area M = is_area_of area M.width M.height

abbrev pub crop_fault : Option Area → Meaning → Option PictureFault
crop_fault None M = None
crop_fault (Some area) M = if is_inside area M then None else Some CropOutside

-- THE FRAME of the cropped picture, from the numbers of its frame

abbrev pub cropped_frame : Area → Frame → Frame
cropped_frame area f = record f {
  width = cropped_side (8 * h_max f) area.x area.w;
  height = cropped_side (8 * v_max f) area.y area.h;
}

abbrev pub cropped_frame_by : Option Area → Frame → Frame
cropped_frame_by None f = f
cropped_frame_by (Some area) f = cropped_frame area f

-- the columns and rows of a component that are left out, by the frame before
abbrev pub columns_cropped : Area → Frame → ℕ → ℕ
columns_cropped area f i = (area.x / (8 * h_max f)) * (component_at f i).h

abbrev pub rows_cropped : Area → Frame → ℕ → ℕ
rows_cropped area f i = (area.y / (8 * v_max f)) * (component_at f i).v

-- An area that may be asked for: it has samples, and its numbers have at most five digits.
pub record IsArea (area : Area) : Type 0 where
  pub wide : 1 ≤ area.w
  pub high : 1 ≤ area.h
  pub w : area.w ≤ 99999
  pub h : area.h ≤ 99999
  pub x : area.x ≤ 99999
  pub y : area.y ≤ 99999
