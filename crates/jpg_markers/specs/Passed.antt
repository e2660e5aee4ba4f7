-- The JFIF header or Adobe segment of a file, and the kept markers that are passed on after it (JFIF 1.02, Adobe's
-- APP14, the manual of jpegtran).
use Rattle.std.specs.Prelude.{ℕ, Bool, true, false, not, ◌&&◌, ◌==◌, List, [], ◌∷◌}
use Rattle.jpg_spec.specs.Jfif.{begins_jfif, begins_adobe}
use Rattle.jpg_spec_write.specs.Headed.{jfif_contents, adobe_contents}
use Rattle.jpg_spec.specs.declared.frame.Copying.{Copying}
use Rattle.jpg_spec.specs.declared.frame.Copying.TheVariants as copying
use Rattle.jpg_spec.specs.declared.frame.Colour.{Colour}
use Rattle.jpg_spec.specs.declared.frame.Colour.TheVariants.{Gray, YCbCr, Rgb, Cmyk, Ycck, Unknown}
use Rattle.jpg_spec.specs.declared.jfif.Jfif.{Jfif}

abbrev pub own_header : Colour → Jfif → List (ℕ × List ℕ)
own_header Gray j = (0xe0, jfif_contents j) ∷ []
own_header YCbCr j = (0xe0, jfif_contents j) ∷ []
own_header Rgb j = (0xee, adobe_contents 0) ∷ []
own_header Cmyk j = (0xee, adobe_contents 0) ∷ []
own_header Ycck j = (0xee, adobe_contents 2) ∷ []
own_header Unknown j = []

-- whether the JFIF header or Adobe segment replaces a marker
abbrev pub is_replaced : Colour → ℕ → List ℕ → Bool
is_replaced Gray code contents = begins_jfif code contents
is_replaced YCbCr code contents = begins_jfif code contents
is_replaced Rgb code contents = begins_adobe code contents
is_replaced Cmyk code contents = begins_adobe code contents
is_replaced Ycck code contents = begins_adobe code contents
is_replaced Unknown code contents = false

abbrev pub is_copied : Copying → ℕ → Bool
is_copied copying.None code = false
is_copied copying.Comments code = code == 0xfe
is_copied copying.All code = true

abbrev pub is_passed : Copying → Colour → ℕ × List ℕ → Bool
is_passed copying colour s = is_copied copying s.0 && not (is_replaced colour s.0 s.1)
