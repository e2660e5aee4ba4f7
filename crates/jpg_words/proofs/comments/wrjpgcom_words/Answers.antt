use Rattle.std.proofs.Common.{◌≡◌, ◌∙◌, false, refl, sym}
use Rattle.jpg_spec_words.specs.CommentWords.{are_both_input}
use Rattle.jpg_words.specs.CommentWords.{write_said}
use Rattle.jpg_words.proofs.comments.wrjpgcom_words.Goals as goal

pub returns-in-Err-to_words : goal.returns-in-Err-to_words
returns-in-Err-to_words c =
    let a = write_said c.in-Ok.said in
    let one : are_both_input a.comment a.files.input ≡ false = sym c.needs_input.ensures ∙ c.if-needs_input.false in
    (a, rw (c.in-Ok.ensures, one) refl)
