-- The frame of a cropped picture, and so that of a moved one, passes the checks of a frame.
use Rattle.std.proofs.Common.{◌≡◌, ℕ, ◌+◌, ◌*◌, ◌<◌, ◌≤◌, true, ◌&&◌, arith, Option, Some, None}
use Rattle.std.specs.Prelude.{nat_lt, nat_le}
use Rattle.jpg_spec.specs.Geometry.{Frame, component_at, h_max, v_max, mcus_across, mcus_down}
use Rattle.jpg_spec.specs.FrameHeader.{IsFrame}
use Rattle.jpg_spec_move.specs.Cropped.{is_area_of, cropped_side, cropped_frame, cropped_frame_by}
use Rattle.jpg_spec_move.specs.Laws.{HasArea}
use Rattle.jpg_spec_move.specs.Moved.{Choice, moved_frame, grayed_frame, transformed_frame, uncropped_frame}
use Rattle.jpg_spec_move.specs.declared.area.Area.{Area}
use Rattle.jpg_spec.proofs.Basics.Common.{both, le_of, lt_of}
use Rattle.jpg_spec.proofs.Writing.MovedFrames.{across_low, down_low}
use Rattle.jpg_spec_move.proofs.MovedFrames.{grayed_is, sum_mono, transformed_is, trimmed_is, up_mono}

-- AN AREA that is inside

pub record IsAreaOf (area : Area) (width height : ℕ) : Type 0 where
  pub wide : 0 < area.w
  pub high : 0 < area.h
  pub across : area.x + area.w ≤ width
  pub down : area.y + area.h ≤ height

pub area_of : (area : Area) (width height : ℕ) → is_area_of area width height ≡ true → IsAreaOf area width height
area_of area width height e =
    let a = both (nat_lt 0 area.w && nat_lt 0 area.h) (nat_le (area.x + area.w) width && nat_le (area.y + area.h) height) e in
    let some = both (nat_lt 0 area.w) (nat_lt 0 area.h) a.0 in
    let inside = both (nat_le (area.x + area.w) width) (nat_le (area.y + area.h) height) a.1 in
    record {
      wide = lt_of 0 area.w some.0;
      high = lt_of 0 area.h some.1;
      across = le_of (area.x + area.w) width inside.0;
      down = le_of (area.y + area.h) height inside.1;
    }

-- ALONG ONE SIDE

side_high : (mcu corner side whole : ℕ) → corner + side ≤ whole → cropped_side mcu corner side ≤ whole
side_high mcu corner side whole h = omega (arith, h)

side_low : (mcu corner side : ℕ) → 0 < side → 1 ≤ cropped_side mcu corner side
side_low mcu corner side h = omega (arith, h)

-- THE FRAME

pub cropped_is : (area : Area) (f : Frame) → is_area_of area f.width f.height ≡ true → IsFrame f → IsFrame (cropped_frame area f)
cropped_is area f e is =
    let a = area_of area f.width f.height e in
    let h : 0 < 8 * h_max f = (let k = across_low f.components is.factors is.count_low in omega (arith, k)) in
    let v : 0 < 8 * v_max f = (let k = down_low f.components is.factors is.count_low in omega (arith, k)) in
    let w = cropped_side (8 * h_max f) area.x area.w in
    let t = cropped_side (8 * v_max f) area.y area.h in
    let wl : w ≤ f.width = side_high (8 * h_max f) area.x area.w f.width a.across in
    let hl : t ≤ f.height = side_high (8 * v_max f) area.y area.h f.height a.down in
    let sum = sum_mono (mcus_across (cropped_frame area f)) (mcus_down (cropped_frame area f)) (mcus_across f) (mcus_down f) f.components (up_mono w f.width (8 * h_max f) h wl) (up_mono t f.height (8 * v_max f) v hl) in
    record {
      width_low = side_low (8 * h_max f) area.x area.w a.wide;
      width_high = omega (arith, wl, is.width_high);
      height_low = side_low (8 * v_max f) area.y area.h a.high;
      height_high = omega (arith, hl, is.height_high);
      precision = is.precision;
      count_low = is.count_low;
      count_high = is.count_high;
      factors = is.factors;
      distinct = is.distinct;
      slots = is.slots;
      blocks = omega (arith, sum, is.blocks);
    }

cropped_by_is : (crop : Option Area) (f : Frame) → HasArea crop f → IsFrame f → IsFrame (cropped_frame_by crop f)
cropped_by_is None f has is = is
cropped_by_is (Some area) f has is = cropped_is area f has is

pub moved_is : (choice : Choice) (f : Frame) → IsFrame f → (choice.gray ≡ true → (component_at f 0).h ≡ h_max f) → (choice.gray ≡ true → (component_at f 0).v ≡ v_max f)
    → HasArea choice.crop (uncropped_frame choice f) → IsFrame (moved_frame choice f)
moved_is choice f is h v has =
    let g = grayed_frame choice.gray f in
    cropped_by_is choice.crop (uncropped_frame choice f) has
    (trimmed_is choice.trim choice.transform (transformed_frame choice.transform g) (transformed_is choice.transform g (grayed_is choice.gray f is h v)))
