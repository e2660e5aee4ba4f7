use Rattle.std.proofs.lemmas.Result.{err_from_is_err_and}
use Rattle.jpg_file.proofs.Writing.ScansDue.{can_scans, file_is, file_ends, head_stops, scans_stop}
use Rattle.jpg_file.proofs.write.write_file.Goals as goal

pub write_scans-requires-clause-scans : goal.write_scans-requires-clause-scans
write_scans-requires-clause-scans g c = can_scans c.args.plan.now c.args.kept.now (g.V.BlockView.numbers c.args.view.now) (g.V.BlockView.blocks c.args.view.now) c.requires.plan

pub returns-in_err-file_head : goal.returns-in_err-file_head
returns-in_err-file_head g c =
    let state = g.D.Desk.state in
    let same = file_is c.args.plan.now c.args.kept.now (g.V.BlockView.numbers c.args.view.now) (g.V.BlockView.blocks c.args.view.now) c.requires.plan in
    let back = err_from_is_err_and c.from_residual.result c.from_residual.ensures.1 in
    rw (back.1, back.2) (head_stops (state c.args.desk.now) c.new-out.result c.new-out.ensures _ _ _ same (state c.file_head.new.desk) c.file_head.new.out c.in_err-file_head.field-0.0 c.in_err-file_head.ensures)

pub returns-in_err-write_scans : goal.returns-in_err-write_scans
returns-in_err-write_scans g c =
    let state = g.D.Desk.state in
    let same = file_is c.args.plan.now c.args.kept.now (g.V.BlockView.numbers c.args.view.now) (g.V.BlockView.blocks c.args.view.now) c.requires.plan in
    let back = err_from_is_err_and c.from_residual-in_err-write_scans.result c.from_residual-in_err-write_scans.ensures.1 in
    rw (back.1, back.2) (scans_stop (state c.args.desk.now) c.new-out.result c.new-out.ensures _ _ _ same (state c.file_head.new.desk) (state c.write_scans.new.desk) c.file_head.new.out c.write_scans.new.out
    c.in_err-write_scans.field-0.0 c.in_ok-file_head.ensures c.in_err-write_scans.ensures)

pub returns : goal.returns
returns g c =
    let state = g.D.Desk.state in
    let same = file_is c.args.plan.now c.args.kept.now (g.V.BlockView.numbers c.args.view.now) (g.V.BlockView.blocks c.args.view.now) c.requires.plan in
    file_ends (state c.args.desk.now) c.new-out.result c.new-out.ensures _ _ _ same (state c.file_head.new.desk) (state c.write_scans.new.desk) (state c.write_end.new.desk)
    c.file_head.new.out c.write_scans.new.out c.write_end.new.out c.write_end.result c.write_end.ensures.nothing c.in_ok-file_head.ensures c.in_ok-write_scans.ensures c.write_end.ensures.sends
