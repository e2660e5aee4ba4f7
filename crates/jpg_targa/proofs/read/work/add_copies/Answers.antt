use Rattle.std.proofs.Common.{◌-◌, List, ℕ, length, min, ap, ◌∙◌}
use Rattle.jpg_targa.proofs.Copies.{copies_more}
use Rattle.jpg_targa.proofs.read.work.add_copies.Goals as goal

pub loop-done-preserved : goal.loop-done-preserved
loop-done-preserved c = λ h.
    c.in-Ok.ensures.whole
    ∙ copies_more c.args.end c.loop-done.done c.min-part.result c.args.pixels.now c.loop-done.pixels c.args.pixel.now (c.loop-done.invariant h)
    (c.min-part.ensures ∙ ap (λ n. min n (length c.args.pixel.now)) (c.saturating_sub-missing.ensures ∙ ap (λ (x : List ℕ). c.args.end - length x) c.as_slice.ensures))
