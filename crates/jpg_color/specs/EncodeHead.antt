-- What is asked for, as a frame and its tables have it.
use Rattle.std.specs.Prelude.{ℕ, ◌+◌, ◌==◌, ◌||◌, ◌&&◌, Bool, nat_lt, if◌then◌else◌, List, [], length, map, slice_index_or}
use Rattle.jpg_spec.specs.Geometry.{no_component}
use Rattle.jpg_spec.specs.Lists.{below}
use Rattle.jpg_spec_write.specs.Headed.{is_wide}
use Rattle.jpg_spec_image.specs.Pixels.{is_fractional}
use Rattle.jpg_spec.specs.Segments.{QuantTable}
use Rattle.jpg_spec.specs.declared.frame.Colour.{Colour}
use Rattle.jpg_spec.specs.declared.frame.Colour.TheVariants.{Gray, YCbCr}
use Rattle.jpg_spec.specs.declared.frame.Component.{Component}
use Rattle.jpg_spec.specs.declared.frame.Process.{Process}
use Rattle.jpg_spec.specs.declared.frame.Process.TheVariants.{Baseline, Extended, Progressive}
use Rattle.jpg_base.specs.Frame.{greatest_across, greatest_down}
use Rattle.jpg_color.specs.declared.encode.Encoding.{Encoding as Asked}

abbrev pub component_asked : Asked → ℕ → Component
component_asked a i = record { id = i + 1; h = (slice_index_or a.factors.items i (1, 1)).0; v = (slice_index_or a.factors.items i (1, 1)).1; quant = 0 }

abbrev pub components_asked : Asked → List Component
components_asked a = map (component_asked a) (below (length a.factors.items))

-- the ratio of component i to the greatest factors isn't an integer
abbrev pub fraction_at : List Component → ℕ → Bool
fraction_at components i =
    let c = slice_index_or components i no_component in
    is_fractional (greatest_across components) (greatest_down components) (c.h, c.v)

abbrev pub table_asked : Asked → ℕ → QuantTable
table_asked a i = if i == 0 then slice_index_or a.tables 0 [] else slice_index_or a.tables 1 []

abbrev pub tables_asked : Asked → List QuantTable
tables_asked a = map (table_asked a) (below (length a.factors.items))

abbrev pub process_asked : Asked → Process
process_asked a =
    if a.progressive then Progressive
    else if is_wide (table_asked a 0) || (nat_lt 1 (length a.factors.items) && is_wide (table_asked a 1)) then Extended
    else Baseline

abbrev pub colour_asked : Asked → Colour
colour_asked a = if length a.factors.items == 1 then Gray else YCbCr
