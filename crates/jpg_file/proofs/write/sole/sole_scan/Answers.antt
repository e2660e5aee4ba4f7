use Rattle.std.proofs.Common.{sym, ◌∙◌}
use Rattle.jpg_file.specs.Write.WriteScan.{CanWriteScan}
use Rattle.jpg_file.specs.declared.write.sole.SoleScan.{SoleScan}
use Rattle.jpg_file.proofs.Writing.ScansDue.{is_of_all, is_sole_scan, can_scans, entry_can}
use Rattle.jpg_file.proofs.write.sole.sole_scan.Goals as goal

pub due_of-requires : goal.due_of-requires
due_of-requires c =
    let plan = c.args.plan.now in
    let f = c.requires.1 in
    let blocks = c.requires.2 in (
      f,
      blocks,
      entry_can (CanWriteScan plan f blocks) plan.script 0 c.entry.result c.entry.ensures (can_scans plan c.requires.0 f blocks c.requires.3),
    )

pub returns-clause-sole : goal.returns-clause-sole
returns-clause-sole c =
    let plan = c.args.plan.now in
    is_sole_scan plan c.entry.result (record { due = c.due_of.result; tables = c.typical_set.result }) (sym c.len.ensures.value ∙ c.if-len-ne1.false) c.entry.ensures (sym c.if-not-has_typical.ensures) c.due_of.ensures c.typical_set.ensures

pub returns-clause-all : goal.returns-clause-all
returns-clause-all c kept f blocks can =
    let plan = c.args.plan.now in
    let scan : SoleScan = record { due = c.due_of.result; tables = c.typical_set.result } in
    is_of_all plan kept f blocks scan can (is_sole_scan plan c.entry.result scan (sym c.len.ensures.value ∙ c.if-len-ne1.false) c.entry.ensures (sym c.if-not-has_typical.ensures) c.due_of.ensures c.typical_set.ensures)
