-- WHAT THE WORDS OF A CALL ASK FOR: the first names the command, the others are its switches and files.
use Rattle.std.specs.Prelude.{◌≡◌, ◌⊎◌, ℕ, ◌≤◌, if◌then◌else◌, List, [], ◌∷◌, codes, Option, None, Some, Result, Ok, Err}
use Rattle.std.specs.Str.{bytes_eq}
use Rattle.jpg_base.specs.declared.names.Name.{Name}
use Rattle.jpg_base.specs.declared.names.Name.TheVariants as name
use Rattle.jpg_spec_image.specs.declared.image.EndKind.{EndKind}
use Rattle.jpg_spec_words.specs.Words.{is_tool}
use Rattle.jpg_spec_words.specs.EncodeWords.{EncodeAsked, encode_asked}
use Rattle.jpg_spec_words.specs.ShowWords.{ShowAsked, show_asked}
use Rattle.jpg_spec_words.specs.TransformWords.{TransformAsked, transform_asked}
use Rattle.jpg_spec_words.specs.Requests.{FileName, standard_input, standard_output, named, FilesAsked, ParsedWords, words_right, words_wrong, usage_at}
use Rattle.jpg_spec_words.specs.CommentWords.{WriteAsked, read_asked, write_asked}
use Rattle.jpg_spec_words.specs.WorkWords.{work_asked}
use Rattle.jpg_spec_words.specs.declared.answers.UsageFault.TheVariants.{NoTool, UnknownTool}
use Rattle.jpg_words.specs.Files.{files_view}
use Rattle.jpg_words.specs.CommentWords.{write_words_view}
use Rattle.jpg_words.specs.EncodeWords.{encode_view}
use Rattle.jpg_words.specs.ShowWords.{show_view}
use Rattle.jpg_words.specs.TransformWords.{transform_view}
use Rattle.jpg_words.specs.declared.tools.Asked.{Asked}
use Rattle.jpg_words.specs.declared.tools.Asked.TheVariants as asked
use Rattle.jpg_words.specs.declared.files.WordsStop.{WordsStop}
use Rattle.jpg_words.specs.declared.files.WordsStop.TheVariants as stop

-- jpegtran; djpeg; cjpeg; rdjpgcom; wrjpgcom; jpgwork, with its number
pub data Command : Type 0 where
  transform_picture : TransformAsked → Command
  show_picture : ShowAsked → Command
  encode_image : EncodeAsked → Command
  print_comments : FilesAsked → Command
  insert_comment : WriteAsked → Command
  do_work : ℕ → Command

-- what words ask for, as a command
abbrev pub as_command : {X : Type 0} → (X → Command) → ParsedWords X → ParsedWords Command
as_command command (words_wrong usage) = words_wrong usage
as_command command (words_right asked) = words_right (command asked)

abbrev pub known_command : List ℕ → List (List ℕ) → ParsedWords Command
known_command tool words =
    if bytes_eq tool (codes "jpegtran") then as_command transform_picture (transform_asked words)
    else if bytes_eq tool (codes "djpeg") then as_command show_picture (show_asked words)
    else if bytes_eq tool (codes "cjpeg") then as_command encode_image (encode_asked words)
    else if bytes_eq tool (codes "rdjpgcom") then as_command print_comments (read_asked words)
    else if bytes_eq tool (codes "wrjpgcom") then as_command insert_comment (write_asked words)
    else as_command do_work (work_asked words)

abbrev pub command_asked : List (List ℕ) → ParsedWords Command
command_asked [] = usage_at NoTool 0
command_asked (tool ∷ words) = if is_tool tool then known_command tool words else usage_at UnknownTool 0

-- the name of a file
abbrev pub name_of : FileName → Name
name_of standard_input = name.In
name_of standard_output = name.Out
name_of (named text) = name.File text

-- RESULTS

abbrev pub command_view : Asked → Command
command_view (asked.Jpegtran words) = transform_picture (transform_view words)
command_view (asked.Djpeg words) = show_picture (show_view words)
command_view (asked.Cjpeg words) = encode_image (encode_view words)
command_view (asked.Rdjpgcom files) = print_comments (files_view files)
command_view (asked.Wrjpgcom words) = insert_comment (write_words_view words)
command_view (asked.Jpgwork n) = do_work n

-- a number of jpgwork is one from 1 to 400
abbrev pub IsSized : Asked → Type 0
IsSized (asked.Jpgwork n) = (1 ≤ n) × (n ≤ 400)
IsSized other = Unit {0}

-- the format that words of `djpeg` ask for, and the index of the word that does; none of other words
abbrev pub IsFormatAsked : ParsedWords Command → Option (EndKind × ℕ) → Type 0
IsFormatAsked (words_right (show_picture a)) result = result ≡ Some (a.kind, a.kind_word)
IsFormatAsked other result = result ≡ None

-- If the words are right, what they ask for; if they aren't, what is wrong. NoMemory is possible if a file is named, or
-- a comment given.
abbrev pub IsCommand : ParsedWords Command → Result Asked WordsStop → Type 0
IsCommand told (Ok a) = told ≡ words_right (command_view a)
IsCommand told (Err (stop.Usage usage)) = told ≡ words_wrong usage
IsCommand told (Err stop.NoMemory) =
    ((a : TransformAsked) × (told ≡ words_right (transform_picture a)))
    ⊎ ((asked : ShowAsked) × (told ≡ words_right (show_picture asked)))
    ⊎ ((asked : EncodeAsked) × (told ≡ words_right (encode_image asked)))
    ⊎ ((files : FilesAsked) × (told ≡ words_right (print_comments files))) ⊎ ((asked : WriteAsked) × (told ≡ words_right (insert_comment asked)))
