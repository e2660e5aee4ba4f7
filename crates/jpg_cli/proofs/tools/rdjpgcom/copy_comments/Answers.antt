use Rattle.std.proofs.Common.{[], refl, subst, sym}
use Rattle.jpg_spec_words.specs.declared.answers.Why.{Why}
use Rattle.jpg_cli.specs.Tools.ReadComments.{EndsCopying}
use Rattle.jpg_cli.specs.declared.tools.rdjpgcom.PrintSink.{PrintSink}
use Rattle.jpg_cli.proofs.Comments.CommentsCopied.{all_printed, printing_begun}
use Rattle.jpg_cli.proofs.tools.rdjpgcom.copy_comments.Goals as goal

pub pump-requires-clause-can : goal.pump-requires-clause-can
pump-requires-clause-can g c =
    let s = g.D.Desk.state c.args.desk.now in
    let sink : PrintSink = record { comments = c.args.comments; out = c.new.result } in
    let r = c.requires in
    ((sink, s), [], refl, printing_begun c.args.comments c.new.result s r.read r.limits r.ready c.new.ensures r.created)

pub returns : goal.returns
returns g c =
    let state = g.D.Desk.state in
    let s = state c.args.desk.now in
    let now = state c.pump.new.desk in
    let sink : PrintSink = record { comments = c.args.comments; out = c.new.result } in
    let r = c.requires in
    let all = all_printed (sink, s) (c.pump.new.sink, now) c.pump.result (c.pump.ensures (sink, s) [] refl (printing_begun c.args.comments c.new.result s r.read r.limits r.ready c.new.ensures r.created)) in
    (all.0, subst (λ (w : Why). EndsCopying s w now) (sym c.ended_as.ensures) all.1)
