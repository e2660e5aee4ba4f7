-- The files that words name, as the functions return them.
use Rattle.std.specs.Prelude.{ℕ, List, Option, Some, None}
use Rattle.std.specs.Borrow.{Bor}
use Rattle.jpg_base.specs.declared.names.Name.{Name}
use Rattle.jpg_base.specs.declared.names.Name.TheVariants as name
use Rattle.jpg_spec_words.specs.Requests.{FileName, standard_input, standard_output, named, FilesAsked}
use Rattle.jpg_words.specs.declared.files.Files.{Files}
use Rattle.jpg_words.specs.declared.files.FilesSaid.{FilesSaid}

abbrev pub name_view : Name → FileName
name_view name.In = standard_input
name_view name.Out = standard_output
name_view (name.File text) = named text

abbrev pub files_view : Files → FilesAsked
files_view files = record { input = name_view files.input; output = name_view files.output }

-- a word's text, if there is one
abbrev pub text_view : Option (Bor (List ℕ)) → Option (List ℕ)
text_view None = None
text_view (Some word) = Some word.now

-- a file's name, or the other file if there is none
abbrev pub file_said : FileName → Option (Bor (List ℕ)) → FileName
file_said other None = other
file_said other (Some word) = named word.now

abbrev pub files_said : FilesSaid → FilesAsked
files_said s = record { input = file_said standard_input s.input; output = file_said standard_output s.output }
