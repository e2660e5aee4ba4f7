-- The first segment of Exif data among kept markers.
use Rattle.std.specs.Prelude.{◌≡◌, ◌<◌, ℕ, [], List, length, slice_index_or, slice_set}
use Rattle.jpg_spec_upright.specs.Exif.{marked_upright, orientation_in, orientation_of, upright_contents}

abbrev pub member : List (ℕ × List ℕ) → ℕ → ℕ × List ℕ
member kept i = slice_index_or kept i (0, [])

-- It is at this index, and determines the orientation.
pub record IsFirstExif (kept : List (ℕ × List ℕ)) (i : ℕ) : Type 0 where
  pub inside : i < length kept
  pub turned : orientation_of kept ≡ orientation_in (member kept i).1
  pub marked : marked_upright kept ≡ slice_set kept i ((member kept i).0, upright_contents (member kept i).1)
