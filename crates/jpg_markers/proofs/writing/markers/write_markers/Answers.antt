use Rattle.std.specs.Prelude.{filter}
use Rattle.std.proofs.lemmas.Result.{err_from_is_err_and}
use Rattle.jpg_spec_write.specs.FileText.{kept_text}
use Rattle.jpg_markers.specs.Passed.{is_passed, own_header}
use Rattle.jpg_huff.proofs.Together.{sends_same, sends_then, sends_fault}
use Rattle.jpg_markers.proofs.HeadText.{headed_text}
use Rattle.jpg_markers.proofs.writing.markers.write_markers.Goals as goal

pub returns : goal.returns
returns g c =
    let state = g.D.Desk.state in
    let h = c.args.head.now in
    let kept = c.args.kept.now in
    sends_same (state c.args.desk.now) (state c.write_passed.new.desk) c.args.out.now c.write_passed.new.out _ _ c.write_passed.result (headed_text h.colour h.jfif h.copying kept)
    (sends_then (state c.args.desk.now) (state c.write_own.new.desk) (state c.write_passed.new.desk) c.args.out.now c.write_own.new.out c.write_passed.new.out (kept_text (own_header h.colour h.jfif))
    (kept_text (filter (is_passed h.copying h.colour) kept)) c.write_passed.result c.in_ok-write_own.ensures c.write_passed.ensures)

pub returns-in_err-write_own : goal.returns-in_err-write_own
returns-in_err-write_own g c =
    let state = g.D.Desk.state in
    let h = c.args.head.now in
    let kept = c.args.kept.now in
    let back = err_from_is_err_and c.from_residual.result c.from_residual.ensures.1 in
    rw (back.1, back.2) (sends_same (state c.args.desk.now) (state c.write_own.new.desk) c.args.out.now c.write_own.new.out _ _ _ (headed_text h.colour h.jfif h.copying kept)
    (sends_fault (state c.args.desk.now) (state c.write_own.new.desk) c.args.out.now c.write_own.new.out (kept_text (own_header h.colour h.jfif)) (kept_text (filter (is_passed h.copying h.colour) kept)) c.in_err-write_own.field-0.0 c.in_err-write_own.ensures))
