-- The JFIF header and Adobe's segment (JFIF 1.02, Adobe's APP14).
use Rattle.std.specs.Prelude.{ℕ, Bool, true, false, nat_le, ◌&&◌, ◌==◌, List, [], ◌∷◌, ◌++◌, length, reverse, slice_index, Option, Some, None, find, codes}
use Rattle.jpg_spec.specs.Lists.{begins_with}
use Rattle.jpg_spec.specs.Segments.{two_bytes}
use Rattle.jpg_spec.specs.declared.jfif.Jfif.{Jfif}

-- Segments are pairs of a marker code and contents.
abbrev pub begins_jfif : ℕ → List ℕ → Bool
begins_jfif code contents = code == 0xe0 && begins_with (codes "JFIF" ++ 0 ∷ []) contents

abbrev pub begins_adobe : ℕ → List ℕ → Bool
begins_adobe code contents = code == 0xee && begins_with (codes "Adobe") contents

abbrev pub is_jfif : ℕ × List ℕ → Bool
is_jfif s = begins_jfif s.0 s.1 && nat_le 14 (length s.1)

abbrev pub is_adobe : ℕ × List ℕ → Bool
is_adobe s = begins_adobe s.0 s.1 && nat_le 12 (length s.1)

-- that of the last JFIF segment
abbrev pub parsed_jfif : Option (ℕ × List ℕ) → Jfif
parsed_jfif None = record { seen = false; major = 1; minor = 1; unit = 0; x = 1; y = 1 }
parsed_jfif (Some s) = record {
  seen = true;
  major = slice_index s.1 5;
  minor = slice_index s.1 6;
  unit = slice_index s.1 7;
  x = two_bytes (slice_index s.1 8) (slice_index s.1 9);
  y = two_bytes (slice_index s.1 10) (slice_index s.1 11);
}

abbrev pub jfif_of : List (ℕ × List ℕ) → Jfif
jfif_of kept = parsed_jfif (find is_jfif (reverse kept))

abbrev pub adobe_transform : List (ℕ × List ℕ) → Option ℕ
adobe_transform kept = adobe_told (find is_adobe (reverse kept))
  where
    adobe_told : Option (ℕ × List ℕ) → Option ℕ
    adobe_told None = None
    adobe_told (Some s) = Some (slice_index s.1 11)
