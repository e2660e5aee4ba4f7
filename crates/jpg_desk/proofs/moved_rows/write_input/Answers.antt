use Rattle.std.proofs.Common.{subst}
use Rattle.jpg_transform.specs.Planned.{choice_view}
use Rattle.jpg_desk.specs.MovedRead.{IsInputOf}
use Rattle.jpg_desk.specs.declared.moved_rows.MovedInput.{MovedInput}
use Rattle.jpg_desk.proofs.MovedRows.{rows_moved}
use Rattle.jpg_desk.proofs.moved_rows.write_input.Goals as goal

pub returns-in-Rows-clause-wrote : goal.returns-in-Rows-clause-wrote
returns-in-Rows-clause-wrote g c = λ p is.
    (let state = g.D.Desk.state in
    let moved = subst (λ (i : MovedInput). IsInputOf (choice_view c.args.choice.now) p i) c.in-Rows.is is in
    rows_moved c.in-Rows.rows c.args.output.now (state c.args.desk.now) (state c.write_rows.new.desk) c.write_rows.result moved c.write_rows.ensures.output)
