use Rattle.std.proofs.Common.{map, drop, string_bytes, subst}
use Rattle.jpg_spec_words.specs.Requests.{request}
use Rattle.jpg_spec_words.specs.ShowWords.{ShowAsked, djpeg}
use Rattle.jpg_words.specs.Requests.{IsAnswer}
use Rattle.jpg_words.specs.ShowWords.{show_view}
use Rattle.jpg_words.proofs.djpeg.djpeg_words.Goals as goal

pub returns : goal.returns
returns c =
    let P : ShowAsked → Type 0 = λ a. IsAnswer show_view (request djpeg a (drop 1 (map string_bytes c.args.words.now))) c.read_words.result in
    subst P c.start_of.ensures c.read_words.ensures
