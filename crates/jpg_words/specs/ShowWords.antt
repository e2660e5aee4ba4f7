-- What the words of djpeg ask for, as the functions return it.
use Rattle.std.specs.Prelude.{◌≡◌, ℕ, Option, None, Some}
use Rattle.jpg_spec_image.specs.declared.image.EndKind.{EndKind}
use Rattle.jpg_spec_words.specs.Requests.{ParsedWords, words_right, words_wrong}
use Rattle.jpg_spec_words.specs.ShowWords.{ShowAsked, scans_from}
use Rattle.jpg_words.specs.Files.{files_said, files_view}
use Rattle.jpg_words.specs.declared.djpeg.ShowSaid.{ShowSaid}
use Rattle.jpg_words.specs.declared.djpeg_request.ShowWords.{ShowWords}

-- The format that right words ask for, and the index of the word that does.
abbrev pub IsFormat : ParsedWords ShowAsked → Option (EndKind × ℕ) → Type 0
IsFormat (words_right a) result = result ≡ Some (a.kind, a.kind_word)
IsFormat (words_wrong usage) result = result ≡ None

-- words with their files, as they ask for a picture to be decoded
abbrev pub show_view : ShowWords → ShowAsked
show_view w = record { files = files_view w.files; kind = w.kind; kind_word = w.kind_word; gray = w.gray; smooth = w.smooth; preview = w.preview }

-- what the words so far ask for
abbrev pub show_said : ShowSaid → ShowAsked
show_said s = record {
  files = files_said s.files;
  kind = s.kind;
  kind_word = s.kind_word;
  gray = s.gray;
  smooth = s.smooth;
  preview = scans_from s.preview;
}
