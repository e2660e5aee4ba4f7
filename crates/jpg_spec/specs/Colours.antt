-- The colours determined by a frame's components, the JFIF header and Adobe's transform (JFIF 1.02, Adobe's APP14).
use Rattle.std.specs.Prelude.{ℕ, Bool, true, false, ◌==◌, if◌then◌else◌, List, [], ◌∷◌, Option, Some, None}
use Rattle.jpg_spec.specs.Lists.{are_equal}
use Rattle.jpg_spec.specs.declared.frame.Colour.{Colour}
use Rattle.jpg_spec.specs.declared.frame.Colour.TheVariants.{Gray, YCbCr, Rgb, Cmyk, Ycck, Unknown}

abbrev pub is_some_zero : Option ℕ → Bool
is_some_zero None = false
is_some_zero (Some n) = n == 0

abbrev pub is_some_number : Option ℕ → Bool
is_some_number None = false
is_some_number (Some n) = true

-- of three components: whether a JFIF header was seen, and Adobe's transform, if any
abbrev pub three_colours : List ℕ → Bool → Option ℕ → Colour
three_colours ids seen adobe =
    if seen then YCbCr
    else if is_some_zero adobe then Rgb
    else if is_some_number adobe then YCbCr
    else if are_equal ids (82 ∷ 71 ∷ 66 ∷ []) then Rgb
    else YCbCr

abbrev pub four_colours : Option ℕ → Colour
four_colours adobe = if is_some_zero adobe then Cmyk else if is_some_number adobe then Ycck else Cmyk

-- by the number and ids of the components
abbrev pub colours_of : ℕ → List ℕ → Bool → Option ℕ → Colour
colours_of count ids seen adobe =
    if count == 1 then Gray
    else if count == 3 then three_colours ids seen adobe
    else if count == 4 then four_colours adobe
    else Unknown
