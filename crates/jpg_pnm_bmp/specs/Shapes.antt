-- Bodies as a reader sees them.
use Rattle.std.specs.Prelude.{ℕ, ◌<◌, List, slice_index}
use Rattle.jpg_spec_image.specs.Images.{Body}
use Rattle.jpg_pnm_bmp.specs.declared.read.body.Shape.{Shape}

abbrev pub body_view : Shape → Body
body_view s = record { count = s.count; line = s.line; used = s.used; limit = s.limit }

-- the first n bytes
abbrev pub AreBelow : ℕ → List ℕ → ℕ → Type 0
AreBelow limit bytes n = (k : ℕ) → k < n → slice_index bytes k < limit
