use Rattle.std.proofs.Common.{◌++◌, [], sym, ap, ◌∙◌, subst}
use Rattle.std.proofs.lemmas.List.{append-nil}
use Rattle.jpg_spec_write.specs.Sending.{ended_bands}
use Rattle.jpg_huff.proofs.Together.{puts_same, puts_nothing}
use Rattle.jpg_prog_write.specs.Items.{IsItem, spelled, texts}
use Rattle.jpg_prog_write.specs.Putting.{ac_codes}
use Rattle.jpg_prog_write.proofs.Texts.{texts_first, texts_none}
use Rattle.jpg_prog_write.proofs.put.put_end.Goals as goal

pub returns-in-Some : goal.returns-in-Some
returns-in-Some g c =
    let codes = ac_codes c.args.codes in
    let b = c.args.bands.now in
    let f = c.in-Some.ensures.some in
    let e = texts_first codes (ended_bands b.bands b.waiting.items) c.in-Some.item c.end.new.self.waiting.items [] f ∙ ap (λ x. spelled codes f.element ++ x) (texts_none codes) ∙ append-nil (spelled codes f.element) in
    puts_same _ _ _ _ (spelled codes f.element) _ _ (sym e) (c.put_last.ensures f.element (subst (IsItem f.element c.in-Some.item) (sym c.as_slice-bits.ensures.value) f.is))

pub returns-in-None : goal.returns-in-None
returns-in-None g c =
    let codes = ac_codes c.args.codes in
    puts_same _ _ _ _ [] _ _ (sym (ap (texts codes) c.in-None.ensures.none ∙ texts_none codes)) (puts_nothing (g.D.Desk.state c.args.desk.now) c.args.out.now)
