use Rattle.std.proofs.Common.{List, [], ℕ, Option, Ok, Err, subst}
use Rattle.arrayvec.specs.ArrayVec.{ArrayVec}
use Rattle.jpg_spec.specs.Segments.{QuantTable}
use Rattle.jpg_transform.specs.Planned.{scans_view}
use Rattle.jpg_words.specs.EncodeWords.{encode_view}
use Rattle.jpg_cli.specs.Tools.ImageEncoded.{Encoded, task_after}
use Rattle.jpg_desk.specs.TablesTaken.{AfterTables, tables_view}
use Rattle.jpg_cli.proofs.Encoding.ImageEncoded.{encoded_by, encoded_stopped}
use Rattle.jpg_cli.proofs.tools.cjpeg.encode_in.Goals as goal

pub returns-clause-encoded : goal.returns-clause-encoded
returns-clause-encoded g c = λ names s b.
    let state = g.D.Desk.state in
    let after = subst (λ (from : Option (List ℕ)). AfterTables from (state c.args.desk.now) (Ok c.in-Ok.tables) (state c.take_tables.new.desk)) c.take.ensures.value c.in-Ok.ensures.after in
    let here = subst (λ (t : Option (ArrayVec QuantTable)). Encoded (task_after [] (encode_view c.args.words) (scans_view c.args.scans.now) (tables_view t)) (state c.take_tables.new.desk) c.encode_by.result (state c.encode_by.new.desk)) c.as_ref.ensures.value c.encode_by.ensures.encoded in
    encoded_by names (encode_view c.args.words) (scans_view c.args.scans.now) (tables_view c.in-Ok.tables) s (state c.args.desk.now) (state c.take_tables.new.desk) (state c.encode_by.new.desk) c.encode_by.result b
    c.in-Ok.ensures.kept after.0 after.1 here

pub returns-in-Err-clause-encoded : goal.returns-in-Err-clause-encoded
returns-in-Err-clause-encoded g c = λ names s b.
    let state = g.D.Desk.state in
    let after = subst (λ (from : Option (List ℕ)). AfterTables from (state c.args.desk.now) (Err c.in-Err.why) (state c.take_tables.new.desk)) c.take.ensures.value c.in-Err.ensures.after in
    encoded_stopped names (encode_view c.args.words) (scans_view c.args.scans.now) s (state c.args.desk.now) (state c.take_tables.new.desk) c.in-Err.why b after
