use Rattle.std.proofs.lemmas.Result.{err_from_is_err_and}
use Rattle.std.proofs.Common.{refl, ◌∙◌}
use Rattle.jpg_huff.proofs.Together.{sends_fault, sends_same, sends_then}
use Rattle.jpg_file.specs.Write.WriteScan.{so_far}
use Rattle.jpg_file.proofs.Writing.ScansDue.{can_count, can_write, text_is, written_is}
use Rattle.jpg_file.proofs.write.scan.write_scan.Goals as goal

pub put_tables-requires : goal.put_tables-requires
put_tables-requires g c = can_count c.args.planned.plan.now _ _ c.args.planned.entry.now c.requires.scan c.due_of-due.result c.due_of-due.ensures

pub write_start-requires-clause-due : goal.write_start-requires-clause-due
write_start-requires-clause-due g c =
    (can_write c.args.planned.plan.now _ _ c.args.planned.entry.now c.due_of-due.result c.put_tables.new.set c.due_of-due.ensures c.put_tables.ensures c.requires.scan).start

pub write_data-requires-clause-due : goal.write_data-requires-clause-due
write_data-requires-clause-due g c =
    can_write c.args.planned.plan.now _ _ c.args.planned.entry.now c.due_of-due.result c.put_tables.new.set c.due_of-due.ensures c.put_tables.ensures c.requires.scan

pub returns-in_err-write_start-clause-sends : goal.returns-in_err-write_start-clause-sends
returns-in_err-write_start-clause-sends g c =
    let back = err_from_is_err_and c.from_residual.result c.from_residual.ensures.1 in
    rw (back.1, back.2) (sends_same _ _ _ _ _ _ _
    (text_is c.args.planned.plan.now _ _ c.args.planned.entry.now c.due_of-due.result c.put_tables.new.set c.due_of-due.ensures c.put_tables.ensures (so_far c.args.given.now))
    (sends_fault _ _ _ _ _ _ _ c.in_err-write_start.ensures.sends))

pub returns-clause-sends : goal.returns-clause-sends
returns-clause-sends g c =
    sends_same _ _ _ _ _ _ _
    (text_is c.args.planned.plan.now _ _ c.args.planned.entry.now c.due_of-due.result c.put_tables.new.set c.due_of-due.ensures c.put_tables.ensures (so_far c.args.given.now))
    (sends_then _ _ _ _ _ _ _ _ _ c.in_ok-write_start.ensures.sends c.write_data.ensures)

pub returns-clause-given : goal.returns-clause-given
returns-clause-given g c u ok =
    c.in_ok-write_start.ensures.given tt refl
    ∙ written_is c.args.planned.plan.now _ _ c.args.planned.entry.now c.due_of-due.result c.put_tables.new.set c.due_of-due.ensures c.put_tables.ensures (so_far c.args.given.now)
