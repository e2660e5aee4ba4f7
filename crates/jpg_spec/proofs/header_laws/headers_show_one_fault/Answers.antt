use Rattle.std.proofs.Common.{length, take, drop, sym, ap, ◌∙◌}
use Rattle.std.proofs.lemmas.List.{take-append-drop, length-take-le}
use Rattle.jpg_spec.proofs.Headers.OneHeader.{shown_once}
use Rattle.jpg_spec.proofs.header_laws.headers_show_one_fault.Goals as goal

pub returns : goal.returns
returns c =
    λ limits bytes f g m n a b. (let k = shown_once limits (take m bytes) (take n bytes) (drop m bytes) (drop n bytes) f g a.shown b.shown (take-append-drop m bytes ∙ sym (take-append-drop n bytes)) in
    (k.1, sym (length-take-le m bytes a.within) ∙ ap length k.0 ∙ length-take-le n bytes b.within))
