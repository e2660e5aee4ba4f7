-- WORKED EXAMPLES: small pictures, the bytes of their files, and the places of the blocks of a mirrored picture.
use Rattle.std.specs.Prelude.{ℕ, List, [], ◌∷◌, codes}

-- an APP0 segment and a comment after it, the newest first; their texts, and that of another comment
abbrev pub two_segments : List (ℕ × List ℕ)
two_segments = (0xfe, codes "old") ∷ (0xe0, codes "q") ∷ []

abbrev pub app_text : List ℕ
app_text = 0xff ∷ 0xe0 ∷ 0 ∷ 3 ∷ 113 ∷ []

abbrev pub old_text : List ℕ
old_text = 0xff ∷ 0xfe ∷ 0 ∷ 5 ∷ 111 ∷ 108 ∷ 100 ∷ []

abbrev pub hi_text : List ℕ
hi_text = 0xff ∷ 0xfe ∷ 0 ∷ 4 ∷ 104 ∷ 105 ∷ []
