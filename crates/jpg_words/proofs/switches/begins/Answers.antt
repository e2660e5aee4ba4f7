use Rattle.std.proofs.Common.{arith}
use Rattle.jpg_words.proofs.WordsAsked.Matching.{none_left}
use Rattle.jpg_words.proofs.switches.begins.Goals as goal

pub returns-in_default : goal.returns-in_default
returns-in_default c =
    let l = c.loop-letter in
    none_left c.args.letters.now l.rest.now l.letter-index _ (omega arith) (omega arith) l.invariant
