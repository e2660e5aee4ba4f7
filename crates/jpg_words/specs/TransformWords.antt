-- What the words of jpegtran ask for, as the functions return it.
use Rattle.std.specs.Prelude.{ℕ, List, Option, option_and_then}
use Rattle.jpg_spec_move.specs.declared.area.Area.{Area}
use Rattle.jpg_spec_words.specs.TransformWords.{ScansSource, own_sequential, own_progressive, in_file, TransformAsked, area_named}
use Rattle.jpg_scans.specs.Restarts.{restart_of}
use Rattle.jpg_words.specs.Files.{files_said, files_view, text_view}
use Rattle.jpg_words.specs.declared.jpegtran.ScriptFrom.{ScriptFrom}
use Rattle.jpg_words.specs.declared.jpegtran.ScriptFrom.TheVariants as from
use Rattle.jpg_words.specs.declared.jpegtran.ScriptSaid.{ScriptSaid}
use Rattle.jpg_words.specs.declared.jpegtran.ScriptSaid.TheVariants as said
use Rattle.jpg_words.specs.declared.jpegtran.TransformSaid.{TransformSaid}
use Rattle.jpg_words.specs.declared.jpegtran_request.TransformWords.{TransformWords}

-- the source of the scans
abbrev pub script_view : ScriptFrom → ScansSource
script_view from.Sequential = own_sequential
script_view from.Standard = own_progressive
script_view (from.File name) = in_file name

-- words with their files, as they ask for a picture to be transformed
abbrev pub transform_view : TransformWords → TransformAsked
transform_view w = record {
  files = files_view w.files;
  transform = w.transform;
  upright = w.upright;
  trim = w.trim;
  gray = w.gray;
  crop = w.crop;
  copying = w.copying;
  scans = script_view w.script;
  huffman = w.huffman;
  restart = restart_of w.restart;
}

-- what the words so far ask for
abbrev pub script_said : ScriptSaid → ScansSource
script_said said.Sequential = own_sequential
script_said said.Standard = own_progressive
script_said (said.File name) = in_file name.now

-- the area of this text, if there is one
abbrev pub area_said : Option (List ℕ) → Option Area
area_said text = option_and_then area_named text

abbrev pub transform_said : TransformSaid → TransformAsked
transform_said s = record {
  files = files_said s.files;
  transform = s.transform;
  upright = s.upright;
  trim = s.trim;
  gray = s.gray;
  crop = area_said (text_view s.crop);
  copying = s.copying;
  scans = script_said s.script;
  huffman = s.huffman;
  restart = restart_of s.restart;
}
