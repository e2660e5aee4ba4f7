use Rattle.std.proofs.Common.{◌∙◌, ap, sym, string_bytes}
use Rattle.jpg_spec_words.specs.Words.{is_tool}
use Rattle.jpg_words.proofs.WordsAsked.Naming.{named_command}
use Rattle.jpg_words.proofs.tools.read_words.Goals as goal

pub returns-in-Some-clause-asked : goal.returns-in-Some-clause-asked
returns-in-Some-clause-asked c =
    named_command string_bytes c.args.words.now c.tool-item.result c.as_str-in-Some.result.now c.known_words.result c.in-len1-up.len_at_least c.tool-item.is c.as_str-in-Some.ensures.value
    (ap is_tool (sym c.as_str.ensures.value) ∙ c.in-Some.ensures.known.0) c.known_words.ensures.asked
