use Rattle.std.proofs.Common.{◌-◌, List, sym, subst}
use Rattle.jpg_spec.specs.declared.frame.Place.{Place}
use Rattle.jpg_coefs.specs.Picture.{Picture, with_block}
use Rattle.jpg_prog_read.specs.RepresentsAcScan.{IsBetweenUnits}
use Rattle.jpg_prog_read.proofs.AcUnits.{whole_padded, unit_put}
use Rattle.jpg_prog_read.proofs.ac_reader.AcReader.put.Goals as goal

pub set_block-requires : goal.set_block-requires
set_block-requires c = whole_padded c.args.self.now c.requires.0 c.requires.1 c.args.coefs.now c.place-place.result c.requires.2 c.place-place.ensures

pub returns-clause-puts : goal.returns-clause-puts
returns-clause-puts c = λ i bits w.
    let m = c.args.self.now in
    let p = c.place-place.result in
    let Q : Picture → Type 0 = λ q. IsBetweenUnits (record m { cursor = c.step.new.self; left = m.left - 1 }) i bits q in
    let C : List Place → Type 0 = λ l. IsBetweenUnits (record m { cursor = l; left = m.left - 1 }) i bits (with_block c.args.coefs.now p.component p.x p.y c.block-block.result) in
    subst Q (sym c.set_block.ensures) (subst C (sym c.step.ensures) (unit_put m i bits c.args.coefs.now p c.block-block.result w c.place-place.ensures c.checked.ensures.count c.block-block.ensures.value c.block-block.ensures.long))
