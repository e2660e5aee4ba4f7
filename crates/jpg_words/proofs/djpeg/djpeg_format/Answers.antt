use Rattle.std.proofs.Common.{◌≡◌, ◌∙◌, Some, ap, drop, map, refl, string_bytes, subst, sym}
use Rattle.jpg_spec_words.specs.Requests.{ParsedWords, request}
use Rattle.jpg_spec_words.specs.ShowWords.{ShowAsked, djpeg}
use Rattle.jpg_words.specs.ShowWords.{IsFormat}
use Rattle.jpg_words.proofs.djpeg.djpeg_format.Goals as goal

pub returns-in-Ok : goal.returns-in-Ok
returns-in-Ok c =
    let said = c.in-Ok.said in
    let P : ParsedWords ShowAsked → Type 0 = λ p. IsFormat p (Some (said.kind, said.kind_word)) in
    subst P (sym (ap (λ (a : ShowAsked). request djpeg a (drop 1 (map string_bytes c.args.words.now))) (sym c.start_of.ensures) ∙ c.in-Ok.ensures)) refl
