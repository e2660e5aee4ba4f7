-- Pieces of a comment as rdjpgcom prints them (its manual in release 6b).
use Rattle.std.specs.Prelude.{ℕ, List, [], ◌∷◌, flat_map, if◌then◌else◌}
use Rattle.jpg_spec_write.specs.CommentText.{octal}
use Rattle.jpg_spec.specs.Markers.{is_within}

-- bytes without line ends and backslashes: printable ASCII as it is, others as a backslash and octal digits
abbrev pub plain_text : List ℕ → List ℕ
plain_text bytes = flat_map (λ byte. if is_within 32 126 byte then byte ∷ [] else 92 ∷ octal byte) bytes
