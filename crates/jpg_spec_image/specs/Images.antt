-- IMAGES THAT ARE READ: what they are, how large they may be, and bodies of samples (release 6b's image files; the
-- bounds are the suite's).
use Rattle.std.specs.Prelude.{ℕ, ◌+◌, ◌*◌, ◌%◌, Bool, true, nat_lt, nat_le, not, ◌&&◌, List, [], ◌∷◌}
use Rattle.jpg_spec_image.specs.ImageText.{row_bytes}
use Rattle.jpg_spec_image.specs.declared.image.ImageInfo.{ImageInfo}

-- an image's numbers, and its samples by rows from the top: one for each pixel of a gray image, red, green and blue for
-- colours
pub record Image : Type 0 where
  pub info : ImageInfo
  pub samples : List ℕ

abbrev pub sample_count : ImageInfo → ℕ
sample_count info = info.height * row_bytes info

-- SIDES

abbrev pub is_side : ℕ → Bool
is_side n = nat_le 1 n && nat_le n 65500

abbrev pub are_few_pixels : ℕ → ℕ → Bool
are_few_pixels width height = nat_le (width * height) 268435456

-- BODIES: a number of bytes, in lines. The first bytes of each line, as many as `used`, are samples, and each of them
-- is below the limit.

pub record Body : Type 0 where
  pub count : ℕ
  pub line : ℕ
  pub used : ℕ
  pub limit : ℕ

-- a sample at this place of the body that isn't below the limit
abbrev pub is_wrong : Body → ℕ → ℕ → Bool
is_wrong body place b = nat_lt (place % body.line) body.used && nat_le body.limit b

-- none of these bytes is wrong, the first of which is at this place
abbrev pub are_right : Body → ℕ → List ℕ → Bool
are_right body place [] = true
are_right body place (b ∷ bytes) = not (is_wrong body place b) && are_right body (place + 1) bytes
