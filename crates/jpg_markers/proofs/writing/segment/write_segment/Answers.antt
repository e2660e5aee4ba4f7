use Rattle.std.proofs.Common.{length, sym, subst, ap, ◌∙◌, Err, Ok, List, ℕ}
use Rattle.std.proofs.lemmas.Result.{err_from_is_err_and}
use Rattle.jpg_huff.specs.BitOut.{Sends}
use Rattle.jpg_spec_write.specs.FileText.{segment_text}
use Rattle.jpg_huff.proofs.Together.{sends_then, sends_fault}
use Rattle.jpg_markers.proofs.SegmentText.{segment_head, head_is}
use Rattle.jpg_markers.proofs.writing.segment.write_segment.Goals as goal

pub returns : goal.returns
returns g c =
    let state = g.D.Desk.state in
    let P : List ℕ → Type 0 = λ h. Sends (state c.args.desk.now) c.args.out.now h (Ok tt) c.raw.new.self (state c.raw.new.desk) in
    sends_then (state c.args.desk.now) (state c.raw.new.desk) (state c.raw-2.new.desk) c.args.out.now c.raw.new.self c.raw-2.new.self (segment_head c.args.code (length c.args.contents.now)) c.args.contents.now c.raw-2.result
    (subst P (head_is c.args.code (length c.args.contents.now) c.to_be_bytes.result c.to_be_bytes.ensures) c.in_ok-raw.ensures) c.raw-2.ensures

pub returns-in_err-raw : goal.returns-in_err-raw
returns-in_err-raw g c =
    let state = g.D.Desk.state in
    let P : List ℕ → Type 0 = λ h. Sends (state c.args.desk.now) c.args.out.now h (Err c.in_err-raw.field-0.0) c.raw.new.self (state c.raw.new.desk) in
    let back = err_from_is_err_and c.from_residual.result c.from_residual.ensures.1 in
    subst (λ r. Sends (state c.args.desk.now) c.args.out.now (segment_text c.args.code c.args.contents.now) r c.raw.new.self (state c.raw.new.desk)) (sym (back.1 ∙ ap Err back.2))
    (sends_fault (state c.args.desk.now) (state c.raw.new.desk) c.args.out.now c.raw.new.self (segment_head c.args.code (length c.args.contents.now)) c.args.contents.now c.in_err-raw.field-0.0
    (subst P (head_is c.args.code (length c.args.contents.now) c.to_be_bytes.result c.to_be_bytes.ensures) c.in_err-raw.ensures))
