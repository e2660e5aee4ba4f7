use Rattle.std.proofs.Common.{◌∙◌, drop, map, string_bytes, sym}
use Rattle.jpg_words.proofs.WordsAsked.Naming.{djpeg_format, other_format}
use Rattle.jpg_words.proofs.tools.known_format.Goals as goal

pub returns-then-is_djpeg : goal.returns-then-is_djpeg
returns-then-is_djpeg c =
    djpeg_format c.args.tool.now (drop 1 (map string_bytes c.args.words.now)) c.djpeg_format.result (sym c.is_djpeg.ensures ∙ c.if-is_djpeg.true) c.djpeg_format.ensures

pub returns : goal.returns
returns c = other_format c.args.tool.now (drop 1 (map string_bytes c.args.words.now)) (sym c.is_djpeg.ensures ∙ c.if-is_djpeg.false)
