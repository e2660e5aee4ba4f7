use Rattle.std.proofs.Common.{◌≡◌, ◌+◌, ℕ, arith, map, drop, length, ap, string_bytes}
use Rattle.std.proofs.lemmas.List.{length-drop, length-map}
use Rattle.jpg_spec_words.specs.ShowWords.{show_default}
use Rattle.jpg_words.proofs.djpeg.start_of.Goals as goal

pub returns : goal.returns
returns c =
    let words = drop 1 (map string_bytes c.args.words.now) in
    let counted : c.max.result ≡ length words + 1 =
    omega (arith, c.max.ensures, length-drop 1 (map string_bytes c.args.words.now), length-map c.args.words.now string_bytes) in
    ap (λ (n : ℕ). show_default n) counted
