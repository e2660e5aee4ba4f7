-- What an application segment means.
use Rattle.std.specs.Prelude.{◌≡◌, ℕ, true, false, List, slice_index, Some}
use Rattle.jpg_spec.specs.Jfif.{is_jfif, is_adobe, parsed_jfif}
use Rattle.jpg_markers.specs.declared.app.App.{App}
use Rattle.jpg_markers.specs.declared.app.App.TheVariants as app

-- the segment's code and contents, and what they mean
abbrev pub IsApp : ℕ → List ℕ → App → Type 0
IsApp code contents (app.Jfif header) = (is_jfif (code, contents) ≡ true) × (header ≡ parsed_jfif (Some (code, contents)))
IsApp code contents (app.Adobe transform) = (is_jfif (code, contents) ≡ false) × (is_adobe (code, contents) ≡ true) × (transform ≡ slice_index contents 11)
IsApp code contents app.Other = (is_jfif (code, contents) ≡ false) × (is_adobe (code, contents) ≡ false)
