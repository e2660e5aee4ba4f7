use Rattle.std.proofs.Common.{◌∙◌, ap, sym, string_bytes}
use Rattle.jpg_spec_words.specs.Words.{is_tool}
use Rattle.jpg_words.proofs.WordsAsked.Naming.{named_format}
use Rattle.jpg_words.proofs.tools.format_asked.Goals as goal

pub returns-in-Some : goal.returns-in-Some
returns-in-Some c =
    named_format string_bytes c.args.words.now c.tool-item.result c.as_str-in-Some.result.now c.known_format.result c.in-len1-up.len_at_least c.tool-item.is c.as_str-in-Some.ensures.value
    (ap is_tool (sym c.as_str.ensures.value) ∙ c.in-Some.ensures.known.0) c.known_format.ensures
