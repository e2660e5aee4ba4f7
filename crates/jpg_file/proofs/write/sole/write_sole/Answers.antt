use Rattle.std.proofs.Common.{ap}
use Rattle.std.proofs.lemmas.Result.{err_from_is_err_and}
use Rattle.jpg_huff.proofs.Together.{sends_then, sends_fault, sends_same}
use Rattle.jpg_file.specs.Write.WriteScan.{start_text}
use Rattle.jpg_file.proofs.Writing.ScansDue.{can_start, sole_file, file_ends, head_stops, scans_stop}
use Rattle.jpg_file.proofs.write.sole.write_sole.Goals as goal

pub write_start-requires-clause-due : goal.write_start-requires-clause-due
write_start-requires-clause-due g c = let is = c.requires.data.2 in can_start c.args.plan.now c.args.kept.now c.requires.data.0 c.requires.data.1 c.args.scan.now is.can is.sole

pub returns-in_err-file_head : goal.returns-in_err-file_head
returns-in_err-file_head g c f blocks is =
    let state = g.D.Desk.state in
    let same = sole_file c.args.plan.now c.args.kept.now f blocks c.args.scan.now is.can is.sole c.args.data.now is.written in
    let back = err_from_is_err_and c.from_residual.result c.from_residual.ensures.1 in
    rw (back.1, back.2) (head_stops (state c.args.desk.now) c.new-out.result c.new-out.ensures _ _ _ same (state c.file_head.new.desk) c.file_head.new.out c.in_err-file_head.field-0.0 c.in_err-file_head.ensures)

pub returns-in_err-write_start : goal.returns-in_err-write_start
returns-in_err-write_start g c f blocks is =
    let state = g.D.Desk.state in
    let s1 = state c.file_head.new.desk in
    let s2 = state c.write_start.new.desk in
    let scan = c.args.scan.now in
    let same = sole_file c.args.plan.now c.args.kept.now f blocks scan is.can is.sole c.args.data.now is.written in
    let none = ap (λ w. start_text c.args.plan.now.out.frame w scan.due scan.tables) c.new.ensures in
    let back = err_from_is_err_and c.from_residual-in_err-write_start.result c.from_residual-in_err-write_start.ensures.1 in
    rw (back.1, back.2) (scans_stop (state c.args.desk.now) c.new-out.result c.new-out.ensures _ _ _ same s1 s2 c.file_head.new.out c.write_start.new.out c.in_err-write_start.field-0.0 c.in_ok-file_head.ensures
    (sends_fault _ _ _ _ _ _ _ (sends_same _ _ _ _ _ _ _ none c.in_err-write_start.ensures.sends)))

pub returns-in_err-raw : goal.returns-in_err-raw
returns-in_err-raw g c f blocks is =
    let state = g.D.Desk.state in
    let s1 = state c.file_head.new.desk in
    let s3 = state c.raw.new.desk in
    let scan = c.args.scan.now in
    let same = sole_file c.args.plan.now c.args.kept.now f blocks scan is.can is.sole c.args.data.now is.written in
    let none = ap (λ w. start_text c.args.plan.now.out.frame w scan.due scan.tables) c.new.ensures in
    let back = err_from_is_err_and c.from_residual-in_err-raw.result c.from_residual-in_err-raw.ensures.1 in
    rw (back.1, back.2) (scans_stop (state c.args.desk.now) c.new-out.result c.new-out.ensures _ _ _ same s1 s3 c.file_head.new.out c.raw.new.self c.in_err-raw.field-0.0 c.in_ok-file_head.ensures
    (sends_then _ _ _ _ _ _ _ _ _ (sends_same _ _ _ _ _ _ _ none c.in_ok-write_start.ensures.sends) c.in_err-raw.ensures))

pub returns : goal.returns
returns g c f blocks is =
    let state = g.D.Desk.state in
    let s1 = state c.file_head.new.desk in
    let s3 = state c.raw.new.desk in
    let scan = c.args.scan.now in
    let same = sole_file c.args.plan.now c.args.kept.now f blocks scan is.can is.sole c.args.data.now is.written in
    let none = ap (λ w. start_text c.args.plan.now.out.frame w scan.due scan.tables) c.new.ensures in
    file_ends (state c.args.desk.now) c.new-out.result c.new-out.ensures _ _ _ same s1 s3 (state c.write_end.new.desk) c.file_head.new.out c.raw.new.self c.write_end.new.out c.write_end.result c.write_end.ensures.nothing c.in_ok-file_head.ensures
    (sends_then _ _ _ _ _ _ _ _ _ (sends_same _ _ _ _ _ _ _ none c.in_ok-write_start.ensures.sends) c.in_ok-raw.ensures) c.write_end.ensures.sends
