use Rattle.std.proofs.Common.{◌≡◌, ◌∙◌, List, ℤ, sym, subst}
use Rattle.jpg_spec.specs.declared.frame.Place.{Place}
use Rattle.jpg_spec.proofs.Basics.Common.{clash, some_once}
use Rattle.jpg_coefs.specs.Picture.{block_in}
use Rattle.jpg_prog_read.specs.InWork.{HasNothing}
use Rattle.jpg_prog_read.proofs.AcUnits.{between_at, padded_at}
use Rattle.jpg_prog_read.proofs.AcPassing.{seen_is_empty}
use Rattle.jpg_prog_read.proofs.ac_reader.AcReader.is_next_empty.Goals as goal

pub block-seen-requires : goal.block-seen-requires
block-seen-requires c =
    let m = c.args.self.now in let w = c.requires.between in
    padded_at (between_at m w.0 w.1 c.args.coefs.now c.place-place.result w.2 c.requires.some c.place-place.ensures).has_due

pub returns-clause-none : goal.returns-clause-none
returns-clause-none c = λ e i bits w.
    seen_is_empty c.args.self.now i bits c.args.coefs.now c.place-place.result c.block-seen.result w c.requires.some c.place-place.ensures c.block-seen.ensures (c.has_nothing.ensures.none e)

pub returns-clause-some : goal.returns-clause-some
returns-clause-some c = λ e p there nothing.
    let q = c.place-place.result in
    let same = some_once q p (sym c.place-place.ensures ∙ there) in
    let block : c.block-seen.result ≡ block_in c.args.coefs.now p.component p.x p.y = subst (λ (r : Place). c.block-seen.result ≡ block_in c.args.coefs.now r.component r.x r.y) same c.block-seen.ensures in
    clash c.has_nothing.result (c.has_nothing.ensures.some (subst (λ (l : List ℤ). HasNothing c.args.self.now.scan l) (sym block) nothing)) e
