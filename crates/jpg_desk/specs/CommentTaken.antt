-- What taking the comment of wrjpgcom does to a desk (its manual in release 6b).
use Rattle.std.specs.Prelude.{◌≡◌, ◌⊎◌, ℕ, ◌+◌, List, Result, Ok, Err}
use Rattle.jpg_base.specs.declared.names.Name.TheVariants as name
use Rattle.jpg_base.specs.Desk.{DeskState}
use Rattle.jpg_spec_words.specs.CommentWords.{CommentSource, from_input, from_words, from_file}
use Rattle.jpg_spec_words.specs.declared.answers.Why.{Why}
use Rattle.jpg_spec_words.specs.declared.answers.Why.TheVariants as why
use Rattle.jpg_spec_words.specs.declared.answers.Which.TheVariants as which
use Rattle.jpg_spec_write.specs.CommentText.{longest_comment}
use Rattle.jpg_desk.specs.FileTaken.{AfterFile}
use Rattle.jpg_desk.specs.Stays.{Untouched}

-- the words themselves
abbrev pub AfterWords : DeskState → List ℕ → Result (List ℕ) Why → DeskState → Type 0
AfterWords old text (Ok bytes) new = Untouched old new × (bytes ≡ text)
AfterWords old text (Err why.NoMemory) new = Untouched old new
AfterWords old text (Err other) new = ⊥

-- The comment, by its source. Of a file at most one byte more is taken than a comment may have. It isn't opened if
-- there is no memory for its name.
abbrev pub AfterComment : DeskState → CommentSource → Result (List ℕ) Why → DeskState → Type 0
AfterComment old from_input result new = AfterFile name.In (longest_comment + 1) which.Comment old result new
AfterComment old (from_words text) result new = AfterWords old text result new
AfterComment old (from_file file) result new = AfterFile (name.File file) (longest_comment + 1) which.Comment old result new ⊎ ((result ≡ Err why.NoMemory) × Untouched old new)
