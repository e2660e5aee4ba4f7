use Rattle.std.proofs.Common.{sym, ap, refl}
use Rattle.jpg_file.specs.declared.read.ends.End.TheVariants as ends
use Rattle.jpg_preview.specs.Viewing.{PreviewState}
use Rattle.jpg_preview.proofs.PieceSteps.{view_ends}
use Rattle.jpg_preview.proofs.preview.Preview.end.Goals as goal

pub returns-in-Early-clause-answered : goal.returns-in-Early-clause-answered
returns-in-Early-clause-answered c = view_ends c.args.self.now c.self.inside.reader c.end-end.result c.end-end.result c.end-end.new.self (ap (λ (p : PreviewState). p.reader) (sym c.self.view_is)) refl c.end-end.ensures.answered

pub returns-in-Stop-clause-answered : goal.returns-in-Stop-clause-answered
returns-in-Stop-clause-answered c =
    view_ends c.args.self.now c.self.inside.reader c.end-end.result (ends.Stop c.in-Stop.stop) c.end-end.new.self (ap (λ (p : PreviewState). p.reader) (sym c.self.view_is)) c.in-Stop.is c.end-end.ensures.answered
