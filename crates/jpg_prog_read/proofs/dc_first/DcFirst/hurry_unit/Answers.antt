use Rattle.std.proofs.Common.{sym, subst, List}
use Rattle.jpg_spec.specs.Codes.{Code}
use Rattle.jpg_prog_read.specs.DcLookedUp.{Hurries}
use Rattle.jpg_prog_read.proofs.DcLookedUp.{none_hurried}
use Rattle.jpg_prog_read.proofs.dc_first.DcFirst.hurry_unit.Goals as goal

pub returns-in-Some-clause-hurries : goal.returns-in-Some-clause-hurries
returns-in-Some-clause-hurries c =
    let m = c.args.self.now in let r = c.requires in
    let same = r.looks c.args.component r.table c.in-Some.codes.now r.there (sym c.in-Some.ensures) in
    let H : List Code → Type 0 = λ l. Hurries m.scan l m.unit c.args.store.now c.hurry.new.self c.hurry.new.store in
    (r.table, r.there, subst H same c.hurry.ensures)

pub returns-in-None-clause-hurries : goal.returns-in-None-clause-hurries
returns-in-None-clause-hurries c =
    let m = c.args.self.now in let r = c.requires in
    (r.table, r.there, none_hurried m.scan _ m.unit c.args.store.now r.at_work)
