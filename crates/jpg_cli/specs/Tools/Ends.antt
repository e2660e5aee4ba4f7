-- THE IMAGE WRITERS that a call is given: all of them new, and their formats.
use Rattle.std.specs.Prelude.{◌≡◌, Bool, true, false, List, map, All}
use Rattle.jpg_spec.specs.Lists.{any_of}
use Rattle.jpg_spec_image.specs.declared.image.EndKind.{EndKind}
use Rattle.jpg_spec_image.specs.declared.image.EndKind.TheVariants.{Pnm, Bmp, Targa}
use Rattle.jpg_pnm_bmp.specs.EndState.{EndState, new_end}

abbrev pub AreNewEnds : List EndState → Type 0
AreNewEnds ends = All (λ e. e ≡ new_end e.kind) ends

abbrev pub formats_of : List EndState → List EndKind
formats_of ends = map (λ e. e.kind) ends

abbrev pub is_same_format : EndKind → EndKind → Bool
is_same_format Pnm Pnm = true
is_same_format Bmp Bmp = true
is_same_format Targa Targa = true
is_same_format a b = false

-- one of them has this format
abbrev pub has_format : EndKind → List EndKind → Bool
has_format kind formats = any_of (is_same_format kind) formats
