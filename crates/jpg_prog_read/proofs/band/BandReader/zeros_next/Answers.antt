use Rattle.std.proofs.Common.{◌≡◌, ◌∙◌, ap, subst, arith, ◌-◌, length, drop, refl}
use mir.Syntax.{w64}
use Rattle.std.specs.Int.{trailing_zeros}
use Rattle.std.proofs.lemmas.List.{length-drop}
use Rattle.jpg_prog_read.specs.InWork.{InWork}
use Rattle.jpg_prog_read.specs.ZerosPassed.{ZerosComeNext}
use Rattle.jpg_prog_read.proofs.Marked.{zeros_found}
use Rattle.jpg_prog_read.proofs.band.BandReader.zeros_next.Goals as goal

pub returns-then-zeros-left-clause-next : goal.returns-then-zeros-left-clause-next
returns-then-zeros-left-clause-next c =
    let i = c.self.inside in let k = c.self.invariant in
    let long : length (drop i.at i.values) ≡ 64 - i.at = length-drop i.at i.values ∙ ap (λ n. n - i.at) k.whole in
    subst (λ (s : InWork). ZerosComeNext (trailing_zeros w64 i.olds) s.rest) c.self.view_is
    (zeros_found (drop i.at i.values) (i.end - i.at) i.olds (trailing_zeros w64 i.olds) (omega (arith, long)) (omega (arith, long, k.fits, k.inside)) k.marked (λ h. refl) (λ h. absurd (omega (arith, h, c.if-zeros-left.true))))

pub returns-else-zeros-left-clause-next : goal.returns-else-zeros-left-clause-next
returns-else-zeros-left-clause-next c =
    let i = c.self.inside in let k = c.self.invariant in
    let long : length (drop i.at i.values) ≡ 64 - i.at = length-drop i.at i.values ∙ ap (λ n. n - i.at) k.whole in
    subst (λ (s : InWork). ZerosComeNext (i.end - i.at) s.rest) c.self.view_is
    (zeros_found (drop i.at i.values) (i.end - i.at) i.olds (i.end - i.at) (omega (arith, long)) (omega (arith, long, k.fits, k.inside)) k.marked (λ h. absurd (omega (arith, h, c.if-zeros-left.false))) (λ h. refl))
