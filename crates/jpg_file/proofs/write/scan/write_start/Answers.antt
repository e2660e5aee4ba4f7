use Rattle.std.proofs.Common.{ap}
use Rattle.std.proofs.lemmas.Result.{err_from_is_err_and}
use Rattle.jpg_spec_write.specs.FileText.{tables_text}
use Rattle.jpg_huff.proofs.Together.{sends_then, sends_fault, sends_same}
use Rattle.jpg_prog_write.specs.Written.{tables_in}
use Rattle.jpg_file.specs.Write.WriteScan.{given_by}
use Rattle.jpg_file.proofs.write.scan.write_start.Goals as goal

pub returns-in_err-write_due-clause-sends : goal.returns-in_err-write_due-clause-sends
returns-in_err-write_due-clause-sends g c =
    let text = tables_text (given_by c.args.given.now.tables) (tables_in c.args.scan.tables.now) in
    let back = err_from_is_err_and c.from_residual.result c.from_residual.ensures.1 in
    rw (back.1, back.2) (sends_fault _ _ _ _ _ _ _ (sends_same _ _ _ _ _ _ _ (ap text c.as_slice.ensures.value) c.in_err-write_due.ensures.sends))

pub returns-clause-sends : goal.returns-clause-sends
returns-clause-sends g c =
    let text = tables_text (given_by c.args.given.now.tables) (tables_in c.args.scan.tables.now) in
    sends_then _ _ _ _ _ _ _ _ _ (sends_same _ _ _ _ _ _ _ (ap text c.as_slice.ensures.value) c.in_ok-write_due.ensures.sends) c.write_head.ensures
