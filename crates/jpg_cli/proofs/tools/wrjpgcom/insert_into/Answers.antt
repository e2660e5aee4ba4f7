use Rattle.std.proofs.Common.{[], false, refl, subst, sym}
use Rattle.jpg_spec_words.specs.declared.answers.Why.{Why}
use Rattle.jpg_cli.specs.Tools.CommentInserted.{Inserted}
use Rattle.jpg_cli.specs.declared.tools.wrjpgcom.InsertSink.{InsertSink}
use Rattle.jpg_cli.proofs.Comments.InsertedPieces.{all_inserted, insertion_begun}
use Rattle.jpg_cli.proofs.tools.wrjpgcom.insert_into.Goals as goal

pub pump-requires-clause-can : goal.pump-requires-clause-can
pump-requires-clause-can g c =
    let s = g.D.Desk.state c.args.desk.now in
    let sink : InsertSink = record { insert = c.args.insert; output = c.args.output; out = c.new.result; created = false } in
    ((sink, s), [], refl, insertion_begun sink s c.requires.begun c.requires.limits c.new.ensures refl)

pub returns-clause-kept : goal.returns-clause-kept
returns-clause-kept g c =
    let state = g.D.Desk.state in
    let s = state c.args.desk.now in
    let sink : InsertSink = record { insert = c.args.insert; output = c.args.output; out = c.new.result; created = false } in
    (all_inserted (sink, s) (c.pump.new.sink, state c.pump.new.desk) c.pump.result (c.pump.ensures (sink, s) [] refl (insertion_begun sink s c.requires.begun c.requires.limits c.new.ensures refl))).0

pub returns-clause-after : goal.returns-clause-after
returns-clause-after g c = λ task comment start t.
    let state = g.D.Desk.state in
    let s = state c.args.desk.now in
    let now = state c.pump.new.desk in
    let sink : InsertSink = record { insert = c.args.insert; output = c.args.output; out = c.new.result; created = false } in
    subst (λ (w : Why). Inserted task start w now) (sym c.ended_as.ensures)
    ((all_inserted (sink, s) (c.pump.new.sink, now) c.pump.result (c.pump.ensures (sink, s) [] refl (insertion_begun sink s c.requires.begun c.requires.limits c.new.ensures refl))).1 task comment start t)
