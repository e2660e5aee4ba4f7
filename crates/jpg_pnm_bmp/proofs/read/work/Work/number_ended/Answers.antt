use Rattle.std.proofs.Common.{◌≡◌, ◌++◌, ◌∷◌, [], ℕ, List, true, false, sym, ap, ◌∙◌, subst}
use Rattle.jpg_spec.specs.NumberTexts.{in_comment}
use Rattle.jpg_spec_image.specs.PnmText.{is_plain, is_number_due}
use Rattle.jpg_spec_image.specs.ImageFaults.{pnm, image_of}
use Rattle.jpg_spec_image.specs.ImageSteps.{in_gap, in_body, whole, plain_image}
use Rattle.jpg_pnm_bmp.specs.Known.{list_of}
use Rattle.jpg_pnm_bmp.specs.Reader.{IsDueAfter, numbers_list}
use Rattle.jpg_pnm_bmp.proofs.AllThere.{after_due, after_plain, after_raw, last_full, plain_made, raw_begun}
use Rattle.jpg_pnm_bmp.proofs.read.work.Work.number_ended.Goals as goal

pub returns-then-due-clause-led : goal.returns-then-due-clause-led
returns-then-due-clause-led c = λ front long known due.
    let old = c.args.self.now in
    let w = c.add_number.new.self in
    let numbers : List ℕ = numbers_list front old ++ c.args.n ∷ [] in
    ap (λ f. in_gap f (numbers_list front w) true (in_comment false c.args.byte)) c.in-Ok.ensures.kept.format
    ∙ ap (λ l. in_gap old.format l true (in_comment false c.args.byte)) (c.in-Ok.ensures.added front known)
    ∙ sym (after_due old.format numbers c.args.byte (sym (c.requires.due front long) ∙ c.if-due.true))

pub returns-then-is_plain-clause-led : goal.returns-then-is_plain-clause-led
returns-then-is_plain-clause-led c = λ front long known due.
    let old = c.args.self.now in
    let w = c.add_number.new.self in
    let kept = c.in-Ok.ensures.kept in
    let numbers : List ℕ = numbers_list front old ++ c.args.n ∷ [] in
    let all = last_full old w c.args.n (subst (IsDueAfter old c.args.n) c.if-due.false c.requires.due) c.requires.scale c.add_number.ensures.all in
    let plain : is_plain old.format ≡ true = ap is_plain (sym kept.format) ∙ sym c.is_plain.ensures ∙ c.if-is_plain.true in
    after_plain old.format numbers c.args.byte (sym (c.requires.due front long) ∙ c.if-due.false) plain
    ∙ ap whole (ap (plain_image old.format) (sym (c.in-Ok.ensures.added front known)) ∙ plain_made front old.format w all ∙ ap (λ k. image_of (pnm k (list_of w.numbers [])) (front ++ w.samples)) (sym kept.format))

pub returns-then-is_plain-clause-all : goal.returns-then-is_plain-clause-all
returns-then-is_plain-clause-all c =
    let old = c.args.self.now in
    last_full old c.add_number.new.self c.args.n (subst (IsDueAfter old c.args.n) c.if-due.false c.requires.due) c.requires.scale c.add_number.ensures.all

pub returns-clause-led : goal.returns-clause-led
returns-clause-led c = λ front long known due.
    let old = c.args.self.now in
    let w = c.add_number.new.self in
    let kept = c.in-Ok.ensures.kept in
    let numbers : List ℕ = numbers_list front old ++ c.args.n ∷ [] in
    let last : is_number_due old.format numbers ≡ false = sym (c.requires.due front long) ∙ c.if-due.false in
    let raw : is_plain old.format ≡ false = ap is_plain (sym kept.format) ∙ sym c.is_plain.ensures ∙ c.if-is_plain.false in
    let none = raw_begun front old w c.args.n raw due last known c.add_number.ensures.all in
    ap (in_body (pnm w.format (list_of w.numbers []))) none
    ∙ ap (λ x. in_body (pnm w.format (list_of w.numbers x)) []) (sym none)
    ∙ ap (λ l. in_body (pnm w.format l) []) (c.in-Ok.ensures.added front known)
    ∙ ap (λ f. in_body (pnm f numbers) []) kept.format
    ∙ sym (after_raw old.format numbers c.args.byte last raw)
