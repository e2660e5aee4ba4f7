use Rattle.std.proofs.Common.{sym, subst}
use Rattle.jpg_spec_words.specs.declared.answers.Why.{Why}
use Rattle.jpg_cli.specs.Tools.ReadComments.{AfterEnd}
use Rattle.jpg_cli.proofs.Comments.CommentsCopied.{printing_ends}
use Rattle.jpg_cli.proofs.Comments.CommentsRead.{end_text}
use Rattle.jpg_cli.proofs.tools.rdjpgcom.PrintSinkPieceSink.end.Goals as goal

pub end-requires : goal.end-requires
end-requires g c = c.requires.2.fed.fed.read.1

pub returns : goal.returns
returns g c = λ from bytes b.
    let limits = b.fed.fed.limits in
    printing_ends (record { comments = c.end.new.self; out = c.args.self.now.out }) c.why_stopped.result b (λ all text h. subst (λ (w : Why). AfterEnd all text w) (sym c.why_stopped.ensures) (end_text all text c.args.self.now.comments c.end.result limits h (c.end.ensures.answered all text h)))
