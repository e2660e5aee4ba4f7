use Rattle.std.proofs.Common.{sym}
use Rattle.jpg_words.proofs.WordsAsked.FactorsNamed.{no_pair}
use Rattle.jpg_words.proofs.cjpeg_values.first_pair.Goals as goal

pub returns-then-not-are_factors : goal.returns-then-not-are_factors
returns-then-not-are_factors c = λ most. no_pair c.args.text.now most (sym c.if-not-are_factors.ensures)
