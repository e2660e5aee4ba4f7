-- What the words of wrjpgcom ask for, as the functions return it.
use Rattle.jpg_spec_words.specs.CommentWords.{CommentSource, from_input, from_words, from_file, WriteAsked}
use Rattle.jpg_words.specs.Files.{files_said, files_view}
use Rattle.jpg_words.specs.declared.comments.CommentFrom.{CommentFrom}
use Rattle.jpg_words.specs.declared.comments.CommentFrom.TheVariants as from
use Rattle.jpg_words.specs.declared.comments.CommentSaid.{CommentSaid}
use Rattle.jpg_words.specs.declared.comments.CommentSaid.TheVariants as said
use Rattle.jpg_words.specs.declared.comments.WriteSaid.{WriteSaid}
use Rattle.jpg_words.specs.declared.comments.WriteWords.{WriteWords}

abbrev pub comment_view : CommentFrom → CommentSource
comment_view from.Input = from_input
comment_view (from.Given text) = from_words text
comment_view (from.File name) = from_file name

abbrev pub write_words_view : WriteWords → WriteAsked
write_words_view words = record { files = files_view words.files; comment = comment_view words.comment; replace = words.replace }

-- what the words so far ask for
abbrev pub comment_said : CommentSaid → CommentSource
comment_said said.Input = from_input
comment_said (said.Given text) = from_words text.now
comment_said (said.File name) = from_file name.now

abbrev pub write_said : WriteSaid → WriteAsked
write_said s = record { files = files_said s.files; comment = comment_said s.comment; replace = s.replace }
