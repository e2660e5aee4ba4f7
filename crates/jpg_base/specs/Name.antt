-- Names of files.
use Rattle.std.specs.Prelude.{ℕ, List, Bool, true, false, Option, None, Some, if◌then◌else◌, [], ◌∷◌}
use Rattle.std.specs.Str.{bytes_eq}
use Rattle.jpg_base.specs.declared.names.Name.{Name}
use Rattle.jpg_base.specs.declared.names.Name.TheVariants.{In, Out, File}

-- whether two names are the same
abbrev pub is_same_name : Name → Name → Bool
is_same_name In In = true
is_same_name Out Out = true
is_same_name (File a) (File b) = bytes_eq a b
is_same_name In Out = false
is_same_name In (File b) = false
is_same_name Out In = false
is_same_name Out (File b) = false
is_same_name (File a) In = false
is_same_name (File a) Out = false

-- the bytes of the first file with this name
abbrev pub file_of : List (Name × List ℕ) → Name → Option (List ℕ)
file_of [] name = None
file_of (file ∷ files) name = if is_same_name file.0 name then Some file.1 else file_of files name
