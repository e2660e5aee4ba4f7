use Rattle.std.proofs.Common.{subst, sym}
use Rattle.std.specs.Prelude.{OnOk}
use Rattle.jpg_desk.specs.RowsTo.{Puts}
use Rattle.jpg_desk.specs.declared.rows_to.RowsTo.{RowsTo}
use Rattle.jpg_desk.specs.declared.rows_to.RowsTo.TheVariants as to
use Rattle.jpg_desk.proofs.RowsTo.{on_ok, puts_one}
use Rattle.jpg_desk.proofs.rows_to.RowsTo.put.Goals as goal

pub returns-in-Moved : goal.returns-in-Moved
returns-in-Moved c =
    let m = c.in-Moved in
    subst (λ (r : RowsTo). OnOk c.put.result (Puts r c.args.row.now (to.Moved m.job m.scan c.put.new.self))) (sym m.is) (on_ok c.put.result (λ moves. puts_one m.job m.scan moves) c.put.ensures)
