use Rattle.std.proofs.Common.{sym, subst}
use Rattle.jpg_prog_read.specs.declared.dc_first.DcFirst.{DcFirst}
use Rattle.jpg_prog_read.specs.BitsTaken.{HurriesOn}
use Rattle.jpg_prog_read.specs.DcFirstPass.{first_pass}
use Rattle.jpg_prog_read.proofs.DcMachines.{can_read, hurried}
use Rattle.jpg_prog_read.proofs.dc_first.DcFirstBitMachine.hurry.Goals as goal

pub hurry_unit-requires : goal.hurry_unit-requires
hurry_unit-requires c = let o = c.requires.open in can_read c.args.self.now c.place-place.result c.args._coefs.now c.place-place.ensures o.0 o.1 o.2

pub returns : goal.returns
returns c =
    let m = c.args.self.now in let h = c.hurry_unit.ensures in
    let H : DcFirst → Type 0 = λ n. HurriesOn first_pass m c.args._coefs.now c.args.store.now n c.hurry_unit.new.store in
    subst H (sym h.same) (hurried m c.place-place.result c.args._coefs.now c.args.store.now c.hurry_unit.new.self.unit c.hurry_unit.new.store c.place-place.ensures h.hurries)
