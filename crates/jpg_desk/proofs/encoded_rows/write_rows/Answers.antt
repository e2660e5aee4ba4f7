use Rattle.std.proofs.Common.{subst}
use Rattle.jpg_file.specs.Write.WriteFile.{file_bytes}
use Rattle.jpg_file.specs.declared.write.Plan.{Plan}
use Rattle.jpg_desk.specs.Writing.{AfterOutput}
use Rattle.jpg_desk.specs.declared.moved.Wrote.TheVariants as wrote
use Rattle.jpg_desk.proofs.SoleWritten.{same_sole}
use Rattle.jpg_desk.proofs.Output.{output_done, output_failed}
use Rattle.jpg_desk.proofs.encoded_rows.write_rows.Goals as goal

pub write_sole-requires-clause-data : goal.write_sole-requires-clause-data
write_sole-requires-clause-data g c =
    let r = c.args.rows.now in
    let has = c.requires in
    (has.0, has.1, same_sole r.file.kept has.0 has.1 c.as_ref.ensures c.as_ref-in-Done.ensures c.as_slice.ensures has.2)

pub returns-in-Ok-clause-output : goal.returns-in-Ok-clause-output
returns-in-Ok-clause-output g c = λ f blocks has.
    let state = g.D.Desk.state in
    let r = c.args.rows.now in
    let done = c.in-Ok.ensures f blocks (same_sole r.file.kept f blocks c.as_ref.ensures c.as_ref-in-Done.ensures c.as_slice.ensures has) in
    subst (λ (p : Plan). AfterOutput c.args.output.now (state c.args.desk.now) (file_bytes p r.file.kept blocks) wrote.Done (state c.write_sole.new.desk)) c.as_ref.ensures
    (output_done (state c.args.desk.now) (state c.create_output.new.desk) (state c.write_sole.new.desk) c.args.output.now _ c.in-Done.ensures done.only done.bytes)

pub returns-in-Err-clause-output : goal.returns-in-Err-clause-output
returns-in-Err-clause-output g c = λ f blocks has.
    let state = g.D.Desk.state in
    let r = c.args.rows.now in
    let done = c.in-Err.ensures f blocks (same_sole r.file.kept f blocks c.as_ref.ensures c.as_ref-in-Done.ensures c.as_slice.ensures has) in
    subst (λ (p : Plan). AfterOutput c.args.output.now (state c.args.desk.now) (file_bytes p r.file.kept blocks) wrote.WriteFault (state c.write_sole.new.desk)) c.as_ref.ensures
    (output_failed (state c.args.desk.now) (state c.create_output.new.desk) (state c.write_sole.new.desk) c.args.output.now _ _ c.in-Done.ensures done.only done.bytes)
