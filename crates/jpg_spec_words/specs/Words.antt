-- THE WORDS OF A CALL: the first names the command.
use Rattle.std.specs.Prelude.{ℕ, Bool, if◌then◌else◌, List, [], ◌∷◌, codes}
use Rattle.std.specs.Str.{bytes_eq}
use Rattle.jpg_spec.specs.Lists.{any_of}

-- the commands
abbrev pub tools : List (List ℕ)
tools = codes "jpegtran" ∷ codes "djpeg" ∷ codes "cjpeg" ∷ codes "rdjpgcom" ∷ codes "wrjpgcom" ∷ codes "jpgwork" ∷ []

abbrev pub is_tool : List ℕ → Bool
is_tool word = any_of (bytes_eq word) tools

-- the command that a message names
abbrev pub tool_of : List (List ℕ) → List ℕ
tool_of [] = codes "jpgsuite"
tool_of (tool ∷ words) = if is_tool tool then tool else codes "jpgsuite"
