-- WHAT A RUN DOES to a desk, by why it ended.
use Rattle.std.specs.Prelude.{◌≡◌, ◌⊎◌, ℕ, Bool, true, false, List, take, Option, None, Some}
use Rattle.std.specs.Io.KnownBytes.{Appends}
use Rattle.jpg_base.specs.Desk.{DeskState, Rose}
use Rattle.jpg_spec_words.specs.declared.answers.Why.{Why}
use Rattle.jpg_spec_words.specs.declared.answers.Why.TheVariants as why
use Rattle.jpg_spec_words.specs.Requests.{FilesAsked, ParsedWords, words_right, words_wrong}
use Rattle.jpg_spec_words.specs.CommentWords.{WriteAsked}
use Rattle.jpg_spec_words.specs.Messages.{message, status_of}
use Rattle.jpg_spec_words.specs.ShowWords.{ShowAsked}
use Rattle.jpg_spec_words.specs.declared.answers.Usage.{Usage}
use Rattle.jpg_spec_words.specs.declared.answers.UsageFault.TheVariants.{NoEnd}
use Rattle.jpg_spec_image.specs.declared.image.EndKind.{EndKind}
use Rattle.jpg_spec_image.specs.declared.image.EndKind.TheVariants.{Pnm}
use Rattle.jpg_spec_words.specs.Words.{tool_of}
use Rattle.jpg_words.specs.Commands.{Command, transform_picture, show_picture, encode_image, print_comments, insert_comment, do_work, command_asked, name_of}
use Rattle.jpg_cli.specs.Tools.CommentInserted.{Inserted, Task}
use Rattle.jpg_cli.specs.Tools.ImageEncoded.{EncodedAsAsked}
use Rattle.jpg_cli.specs.Tools.ReadComments.{PrintedOrNot}
use Rattle.jpg_cli.specs.Tools.Ends.{has_format}
use Rattle.jpg_cli.specs.Tools.FrontShown.{ShownAs}
use Rattle.jpg_cli.specs.Tools.Showing.{Showing}
use Rattle.jpg_desk.specs.Stays.{FilesStay, OnlyWorks, Untouched}
use Rattle.jpg_cli.specs.Tools.Turned.{Transformed}
use Rattle.jpg_cli.specs.Tools.Worked.{DidWork}
use Rattle.jpg_cli.specs.declared.top.Ended.{Ended}

-- The text was said. If the count of failed messages rose, perhaps only a first part of it.
abbrev pub SaysText : DeskState → List ℕ → DeskState → Type 0
SaysText old text new =
    Appends old.said new.said text ⊎ (Rose old.counts.says new.counts.says × ((n : ℕ) × Appends old.said new.said (take n text)))

-- A picture is decoded, or the front of its file, if one of the image writers has the format, or there was no memory
-- for the names of its files; if none has it, the words are wrong.
abbrev pub showing_of : ShowAsked → Showing
showing_of a = record { input = name_of a.files.input; output = name_of a.files.output; kind = a.kind; gray = a.gray; smooth = a.smooth }

abbrev pub RanShow : Bool → ShowAsked → DeskState → Why → DeskState → Type 0
RanShow true a old ended new = ShownAs a.preview (showing_of a) old ended new ⊎ ((ended ≡ why.NoMemory) × Untouched old new)
RanShow false a old ended new = (ended ≡ why.Usage (record { fault = NoEnd; word = a.kind_word })) × Untouched old new

-- What is wrong with words of `djpeg` that ask for a format that none of the image writers has; none of other words.
abbrev pub IsMissing : List EndKind → ParsedWords Command → Option Usage → Type 0
IsMissing formats (words_right (show_picture a)) (Some usage) = (has_format a.kind formats ≡ false) × (usage ≡ record { fault = NoEnd; word = a.kind_word })
IsMissing formats (words_right (show_picture a)) None = has_format a.kind formats ≡ true
IsMissing formats other (Some usage) = ⊥
IsMissing formats other None = Unit {0}

-- The comments of the input are printed, or there was no memory for its name or to begin with.
abbrev pub RanRead : FilesAsked → DeskState → Why → DeskState → Type 0
RanRead files old ended new = PrintedOrNot (name_of files.input) (name_of files.output) old ended new

-- which comment the words insert into which file
abbrev pub task_of : WriteAsked → Task
task_of asked = record { comment = asked.comment; input = name_of asked.files.input; output = name_of asked.files.output; replace = asked.replace }

-- by the formats of the image writers, and what the words ask for
abbrev pub Worked : List EndKind → ParsedWords Command → DeskState → Why → DeskState → Type 0
Worked formats (words_wrong usage) old ended new = (ended ≡ why.Usage usage) × Untouched old new
Worked formats (words_right (transform_picture asked)) old ended new = Transformed asked old ended new
Worked formats (words_right (show_picture asked)) old ended new = RanShow (has_format asked.kind formats) asked old ended new
Worked formats (words_right (encode_image asked)) old ended new = EncodedAsAsked asked old ended new
Worked formats (words_right (print_comments files)) old ended new = RanRead files old ended new
Worked formats (words_right (insert_comment asked)) old ended new = Inserted (task_of asked) old ended new
Worked formats (words_right (do_work n)) old ended new = DidWork (has_format Pnm formats) n old ended new

-- the work of a run, before its message
pub record Works (formats : List EndKind) (words : List (List ℕ)) (old : DeskState) (ended : Why) (new : DeskState) : Type 0 where
  pub worked : Worked formats (command_asked words) old ended new
  pub kept : OnlyWorks old new

-- THE THEOREM: what a run does
pub record Ran (formats : List EndKind) (words : List (List ℕ)) (old : DeskState) (ended : Ended) (new : DeskState) : Type 0 where
  pub worked : Worked formats (command_asked words) old ended.why new
  pub said : SaysText old (message (tool_of words) ended.why) new
  pub code : ended.code ≡ status_of ended.why
  pub stays : FilesStay old new
