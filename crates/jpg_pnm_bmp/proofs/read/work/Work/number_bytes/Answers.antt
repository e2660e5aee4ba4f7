use Rattle.std.proofs.Common.{sym, subst, arith}
use Rattle.jpg_spec_image.specs.ImageSteps.{ImageState}
use Rattle.jpg_pnm_bmp.specs.Reader.{Reaches, numbers_list}
use Rattle.jpg_pnm_bmp.proofs.Advance.{after_digits}
use Rattle.jpg_pnm_bmp.proofs.read.work.Work.number_bytes.Goals as goal

pub returns-clause-led : goal.returns-clause-led
returns-clause-led c = λ front long known due.
    let old = c.args.self.now in
    let d = c.with_digits-number in
    let inside = d.ensures.inside in
    let other = c.if-long-piece.false in
    subst (λ (s : ImageState). Reaches front s c.number_byte-answer.result c.number_byte-answer.new.self)
    (sym (after_digits c.args.n d.result.0 d.result.1 c.args.piece.now old.format (numbers_list front old) (omega (arith, inside, other)) d.ensures.read))
    (c.number_byte-answer.ensures.led front long known due)
