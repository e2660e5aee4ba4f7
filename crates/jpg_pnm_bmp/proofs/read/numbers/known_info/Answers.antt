use Rattle.std.proofs.Common.{◌≡◌, ◌≤◌, [], ◌∷◌, arith, sym, subst}
use Rattle.jpg_spec_image.specs.PnmText.{pnm_info}
use Rattle.jpg_pnm_bmp.specs.Known.{list_of}
use Rattle.jpg_pnm_bmp.specs.Reader.{AreAllNumbers}
use Rattle.jpg_pnm_bmp.specs.declared.read.numbers.Numbers.{Numbers}
use Rattle.jpg_pnm_bmp.proofs.read.numbers.known_info.Goals as goal

pub returns-else-most-eq0-clause-some : goal.returns-else-most-eq0-clause-some
returns-else-most-eq0-clause-some c =
    let a = c.in-All in
    let some : 1 ≤ a.most = (let h = c.if-most-eq0.false in omega (arith, h)) in
    subst (λ (n : Numbers). AreAllNumbers n × (c.pnm_info.result ≡ pnm_info c.args.format (list_of n []))) (sym a.is) (some, c.pnm_info.ensures (a.most ∷ []))
