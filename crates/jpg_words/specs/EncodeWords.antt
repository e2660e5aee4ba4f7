-- What the words of cjpeg ask for, as the functions return it.
use Rattle.std.specs.Prelude.{◌≡◌, ℕ, ◌-◌, true, List, [], ◌∷◌, Option, None, Some, option_and_then, unwrap_or}
use Rattle.std.specs.Borrow.{Bor}
use Rattle.jpg_spec_write.specs.declared.huffman.Huffman.{Huffman}
use Rattle.jpg_spec_words.specs.Requests.{ParsedWords, words_right}
use Rattle.jpg_spec_words.specs.EncodeWords.{EncodeAsked, are_factors, factors_from, factors_named, quality_named}
use Rattle.jpg_scans.specs.Restarts.{restart_of}
use Rattle.jpg_words.specs.Files.{files_said, files_view, text_view}
use Rattle.jpg_words.specs.TransformWords.{script_said, script_view}
use Rattle.jpg_words.specs.declared.cjpeg.EncodeSaid.{EncodeSaid}
use Rattle.jpg_words.specs.declared.cjpeg_request.EncodeWords.{EncodeWords}

-- words with their files, as they ask for an image to be encoded
abbrev pub encode_view : EncodeWords → EncodeAsked
encode_view w = record {
  files = files_view w.files;
  targa = w.targa;
  quality = w.quality;
  gray = w.gray;
  baseline = w.baseline;
  scans = script_view w.script;
  huffman = w.huffman;
  restart = restart_of w.restart;
  factors = w.factors.items;
  tables = w.tables;
}

-- what the words so far ask for; quality and factors are those of these texts
abbrev pub quality_said : Option (List ℕ) → Option ℕ
quality_said text = option_and_then quality_named text

abbrev pub factors_said : Option (List ℕ) → List (ℕ × ℕ)
factors_said text = unwrap_or (option_and_then factors_named text) []

abbrev pub encode_said : EncodeSaid → EncodeAsked
encode_said s = record {
  files = files_said s.files;
  targa = s.targa;
  quality = quality_said (text_view s.quality);
  gray = s.gray;
  baseline = s.baseline;
  scans = script_said s.script;
  huffman = s.huffman;
  restart = restart_of s.restart;
  factors = factors_said (text_view s.factors);
  tables = text_view s.tables;
}

-- what is asked for with these Huffman tables too
abbrev pub huffman_asked : EncodeAsked → Huffman → ParsedWords EncodeAsked
huffman_asked a huffman = words_right (record a { huffman = huffman })

-- The pair of factors that a text begins with, and the rest of the text; or none, and the text has no factors.
abbrev pub IsFirstPair : List ℕ → Option ((ℕ × ℕ) × Bor (List ℕ)) → Type 0
IsFirstPair text None = (most : ℕ) → factors_from most text ≡ None
IsFirstPair text (Some found) = (a x d : ℕ) × (text ≡ a ∷ x ∷ d ∷ found.1.now) × (are_factors a x d ≡ true) × (found.0 ≡ (a - 48, d - 48))
