-- A frame's header, what its numbers bound, and the places of the blocks of a scan (T.81, A.1, A.2, B.2.2).
use Rattle.std.specs.Prelude.{◌<◌, length, ℕ, ◌+◌, ◌-◌, ◌*◌, ◌/◌, Bool, true, false, nat_lt, ◌&&◌, ◌==◌, if◌then◌else◌, List, [], ◌∷◌, slice_index_or, map, sum_by, max, flat_map, pos, neg_ℤ}
use Rattle.jpg_spec.specs.Lists.{below}
use Rattle.jpg_spec.specs.declared.frame.Process.{Process}
use Rattle.jpg_spec.specs.declared.frame.Process.TheVariants.{Baseline, Extended, Progressive}
use Rattle.jpg_spec.specs.declared.frame.Component.{Component}
use Rattle.jpg_spec.specs.declared.frame.Place.{Place}
use Rattle.jpg_spec.specs.declared.frame.Bounds.{Bounds}

-- A frame header: the contents after the code of SOF0, SOF1 or SOF2 (B.2.2, Figure B.3).
pub record Frame : Type 0 where
  pub process : Process
  pub precision : ℕ
  pub width : ℕ
  pub height : ℕ
  pub components : List Component

-- What a precision allows (T.81, F.1.2, F.1.5, G.1.1.1.1): with 8 bits DC is from -1024 to 1023 and AC from -1023 to
-- 1023; with 12 bits each has four binary digits more.
abbrev pub bounds_8 : Bounds
bounds_8 = record { dc_low = neg_ℤ (pos 1024); dc_high = pos 1023; ac = pos 1023; dc_cat = 11; ac_cat = 10; al = 10 }

abbrev pub bounds_12 : Bounds
bounds_12 = record { dc_low = neg_ℤ (pos 16384); dc_high = pos 16383; ac = pos 16383; dc_cat = 15; ac_cat = 14; al = 13 }

abbrev pub bounds_of : ℕ → Bounds
bounds_of precision = if precision == 12 then bounds_12 else bounds_8

abbrev pub bounds : Frame → Bounds
bounds f = bounds_of f.precision

abbrev pub is_progressive : Process → Bool
is_progressive Baseline = false
is_progressive Extended = false
is_progressive Progressive = true

-- rounded up
abbrev pub div_up : ℕ → ℕ → ℕ
div_up n d = (n + d - 1) / d

abbrev pub greatest : List ℕ → ℕ
greatest [] = 0
greatest (n ∷ ns) = max n (greatest ns)

abbrev pub h_max : Frame → ℕ
h_max f = greatest (map (λ c. c.h) f.components)

abbrev pub v_max : Frame → ℕ
v_max f = greatest (map (λ c. c.v) f.components)

abbrev pub mcus_across : Frame → ℕ
mcus_across f = div_up f.width (8 * h_max f)

abbrev pub mcus_down : Frame → ℕ
mcus_down f = div_up f.height (8 * v_max f)

-- one row of the MCUs of a scan of all components (A.2.3)
abbrev pub mcu_row_frame : Frame → Frame
mcu_row_frame f = record f { height = if length f.components == 1 then 8 else 8 * v_max f }

-- the real blocks of a component (A.1.1)
abbrev pub blocks_across : Frame → Component → ℕ
blocks_across f c = div_up (div_up (f.width * c.h) (h_max f)) 8

abbrev pub blocks_down : Frame → Component → ℕ
blocks_down f c = div_up (div_up (f.height * c.v) (v_max f)) 8

-- the blocks of the padded grids of all components (A.2.4)
abbrev pub padded_blocks : Frame → ℕ
padded_blocks f = sum_by (λ c. (mcus_across f * c.h) * (mcus_down f * c.v)) f.components

abbrev pub no_component : Component
no_component = record { id = 0; h = 1; v = 1; quant = 0 }

abbrev pub component_at : Frame → ℕ → Component
component_at f i = slice_index_or f.components i no_component

abbrev pub is_real : Frame → ℕ → ℕ → ℕ → Bool
is_real f i x y = nat_lt x (blocks_across f (component_at f i)) && nat_lt y (blocks_down f (component_at f i))

-- a place of a component's real grid
pub record IsReal (f : Frame) (i x y : ℕ) : Type 0 where
  pub component : i < length f.components
  pub across : x < blocks_across f (component_at f i)
  pub down : y < blocks_down f (component_at f i)

abbrev pub place : Frame → ℕ → ℕ → ℕ → Place
place f i x y = record { component = i; x = x; y = y; real = is_real f i x y }

-- the blocks of a component in the MCU at a column and a row of MCUs (A.2.3)
abbrev pub mcu_part : Frame → ℕ → ℕ → ℕ → List Place
mcu_part f mx my i =
    let c = component_at f i in
    flat_map (λ v. map (λ h. place f i (mx * c.h + h) (my * c.v + v)) (below c.h)) (below c.v)

-- a scan of one component: its real blocks, row by row (A.2.2)
abbrev pub single_units : Frame → ℕ → List Place
single_units f i =
    flat_map (λ y. map (λ x. place f i x y) (below (blocks_across f (component_at f i)))) (below (blocks_down f (component_at f i)))

-- a scan of several: the parts of each MCU (A.2.3)
abbrev pub interleaved_units : Frame → List ℕ → List Place
interleaved_units f parts = flat_map (λ my. flat_map (λ mx. flat_map (mcu_part f mx my) parts) (below (mcus_across f))) (below (mcus_down f))

unfoldable pub units : Frame → List ℕ → List Place
units f [] = []
units f (i ∷ []) = single_units f i
units f (i ∷ j ∷ parts) = interleaved_units f (i ∷ j ∷ parts)

-- the blocks of one MCU of several components, and of the components of a scan (A.2.2, A.2.3)
abbrev pub factor_sum : Frame → List ℕ → ℕ
factor_sum f parts = sum_by (λ i. (component_at f i).h * (component_at f i).v) parts

abbrev pub mcu_units : Frame → List ℕ → ℕ
mcu_units f [] = 0
mcu_units f (i ∷ []) = 1
mcu_units f (i ∷ j ∷ parts) = factor_sum f (i ∷ j ∷ parts)

abbrev pub scan_mcus_across : Frame → List ℕ → ℕ
scan_mcus_across f [] = 0
scan_mcus_across f (i ∷ []) = blocks_across f (component_at f i)
scan_mcus_across f (i ∷ j ∷ parts) = mcus_across f
