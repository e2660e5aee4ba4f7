use Rattle.std.proofs.Common.{rules, ◌≡◌, ◌∙◌, ap, ℤ, ◌+ℤ◌, pos, cond}
use mir.Syntax.{w16}
use mir.Val.{to_z, of_z}
use Rattle.std.proofs.lemmas.Int.{to_z-of_z}
use Rattle.jpg_prog_read.proofs.DcUnits.{refine_read}
use Rattle.jpg_prog_read.proofs.dc.refine.Goals as goal

pub returns : goal.returns
returns c =
    let v = c.args.value in
    let r = c.with_bit.result in
    let e : to_z w16 (of_z w16 r) ≡ v +ℤ cond c.args.bit (pos c.args.scan.now.scale) (pos 0) =
    to_z-of_z w16 r (search rules) ∙ c.with_bit.ensures ∙ ap (λ (x : ℤ). x +ℤ cond c.args.bit (pos c.args.scan.now.scale) (pos 0)) (to_z-of_z w16 v (search rules)) in
    refine_read c.args.scan.now v (to_z w16 (of_z w16 r)) c.args.bit e c.requires.low c.requires.high
