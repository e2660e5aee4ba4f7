use Rattle.std.proofs.Common.{◌∙◌, ◌+◌, ap, drop}
use Rattle.std.proofs.lemmas.List.{drop-drop}
use Rattle.std.specs.List.{sum}
use Rattle.jpg_markers.proofs.huffmans.table_at.Goals as goal

pub returns-in-Ok-clause-rest : goal.returns-in-Ok-clause-rest
returns-in-Ok-clause-rest c =
    let bytes = c.args.bytes.now in
    c.split_at.ensures.back ∙ ap (drop c.in-Ok.total) c.in-Some.ensures.cases.1 ∙ drop-drop c.in-Ok.total 16 bytes
    ∙ ap (λ n. drop (16 + n) bytes) (c.in-Ok.ensures.is ∙ ap (λ l. sum l) c.in-Some.ensures.cases.0)
