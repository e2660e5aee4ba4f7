use Rattle.std.proofs.Common.{◌-◌, ℕ, List, length, min, ap, ◌∙◌}
use Rattle.jpg_targa.proofs.Copies.{grays}
use Rattle.jpg_targa.proofs.read.work.add_grays.Goals as goal

pub returns-in-Ok : goal.returns-in-Ok
returns-in-Ok c = λ fits.
    c.in-Ok.ensures.whole
    ∙ grays c.args.end c.min-part.result c.args.count c.args.gray c.args.pixels.now fits
    (c.min-part.ensures ∙ ap (λ n. min n c.from.result) (c.saturating_sub-missing.ensures ∙ ap (λ (x : List ℕ). c.args.end - length x) c.as_slice.ensures) ∙ ap (min (c.args.end - length c.args.pixels.now)) c.from.ensures)
    c.ranges.count.fits
