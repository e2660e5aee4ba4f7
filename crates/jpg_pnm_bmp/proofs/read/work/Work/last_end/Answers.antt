use Rattle.std.proofs.Common.{◌++◌, [], sym, ap, ◌∙◌, Ok}
use Rattle.jpg_spec_image.specs.ImageFaults.{pnm, image_of}
use Rattle.jpg_spec_image.specs.ImageSteps.{plain_image}
use Rattle.jpg_pnm_bmp.specs.Known.{list_of}
use Rattle.jpg_pnm_bmp.proofs.AllThere.{last_full, plain_made}
use Rattle.jpg_pnm_bmp.proofs.read.work.Work.last_end.Goals as goal

pub returns-clause-led : goal.returns-clause-led
returns-clause-led c = λ front known.
    let old = c.args.self.now in
    let w = c.add_number.new.self in
    let all = last_full old w c.args.n c.requires.last c.requires.scale c.add_number.ensures.all in
    ap Ok (ap (plain_image old.format) (sym (c.in-Ok.ensures.added front known)) ∙ plain_made front old.format w all ∙ ap (λ k. image_of (pnm k (list_of w.numbers [])) (front ++ w.samples)) (sym c.in-Ok.ensures.kept.format))

pub returns-clause-all : goal.returns-clause-all
returns-clause-all c = last_full c.args.self.now c.add_number.new.self c.args.n c.requires.last c.requires.scale c.add_number.ensures.all
