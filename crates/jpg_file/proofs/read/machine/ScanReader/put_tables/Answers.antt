use Rattle.std.proofs.Common.{arith, true, false, subst}
use Rattle.jpg_file.specs.Read.Machine.{IsBareScan}
use Rattle.jpg_file.specs.declared.read.machine.ScanReader.{ScanReader}
use Rattle.std.proofs.lemmas.Bool.Decides.{nat_tests}
use Rattle.jpg_file.proofs.Scans.Machines.{as_plain, kind_of, of_first}
use Rattle.jpg_file.proofs.read.machine.ScanReader.put_tables.Goals as goal

pub put_tables-requires-clause-scan : goal.put_tables-requires-clause-scan
put_tables-requires-clause-scan c =
    let f = c.args.frame.now in
    let head = c.args.head.now in
    let set = c.args.tables.now in
    as_plain f head set c.requires.header (subst (λ (m : ScanReader). IsBareScan f head set m) c.in-Sequential.is c.requires.bare).0

pub returns-in-DcFirst : goal.returns-in-DcFirst
returns-in-DcFirst c = λ i of.
    let f = c.args.frame.now in
    let head = c.args.head.now in
    let set = c.args.tables.now in
    let bare = subst (λ (m : ScanReader). IsBareScan f head set m) c.in-DcFirst.is c.requires.bare in
    let k = kind_of f head set i true false of bare.0 (grind (arith, nat_tests, bare.1)) (grind (arith, nat_tests, bare.2)) in
    (c.put_tables-in-DcFirst.ensures i (of_first f head set i of k), k)
