use Rattle.std.proofs.Common.{◌++◌, sym, ap, subst}
use Rattle.std.proofs.Math.Logic.{∥∥₁_elim}
use Rattle.jpg_spec_image.specs.ImageSteps.{state_end}
use Rattle.jpg_pnm_bmp.specs.Reader.{standing_of, numbers_list, AreGivenIn, IsReached, EndsAs}
use Rattle.jpg_pnm_bmp.proofs.Advance.{due_reached}
use Rattle.jpg_pnm_bmp.proofs.AllThere.{scale_prop, scale_reached}
use Rattle.jpg_pnm_bmp.proofs.read.work.Work.end.Goals as goal

pub returns-in-Number-clause-led : goal.returns-in-Number-clause-led
returns-in-Number-clause-led c = λ front before r.
    let s = c.args.self.now in
    let known = subst (λ st. AreGivenIn st s.numbers front) c.in-Number.is before.known in
    subst (λ st. EndsAs front (state_end (standing_of front st s)) c.number_end.result c.number_end.new.self) (sym c.in-Number.is)
    (c.number_end.ensures.led front before.long known (due_reached s.format (numbers_list front s) c.in-Number.n (subst IsReached (ap (λ st. standing_of front st s) c.in-Number.is) r)))

pub number_end-requires : goal.number_end-requires
number_end-requires c =
    let s = c.args.self.now in
    ∥∥₁_elim c.requires (scale_prop s.numbers) (λ r. scale_reached s.format s.numbers (r.0 ++ s.samples) c.in-Number.n (subst IsReached (ap (λ st. standing_of r.0 st s) c.in-Number.is) r.2))
