use Rattle.std.proofs.Common.{arith, false, refl}
use Rattle.std.proofs.lemmas.Bool.Decides.{nat_tests}
use Rattle.jpg_file.specs.declared.read.machine.ScanReader.TheVariants.{Ac}
use Rattle.jpg_file.proofs.Scans.Machines.{kind_of, of_band}
use Rattle.jpg_file.proofs.read.scan_start.put_band.Goals as goal

pub returns : goal.returns
returns c = (
  Ac c.new-machine.result,
  c.put_scan.ensures,
  λ i of. (let f = c.args.frame.now in
      let head = c.args.head.now in
      let k = kind_of f head c.args.tables.now i false _ of c.requires.kind (grind (arith, nat_tests, c.requires.band)) refl in
      (c.new-machine.ensures i (of_band f head c.args.tables.now i of c.requires.kind k), k)),
)
