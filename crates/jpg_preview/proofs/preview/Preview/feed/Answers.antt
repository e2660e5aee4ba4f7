use Rattle.std.proofs.Common.{sym, subst}
use Rattle.jpg_preview.specs.Viewing.{HasViewed, PreviewState}
use Rattle.jpg_preview.proofs.PieceSteps.{viewed_ok}
use Rattle.jpg_preview.proofs.preview.Preview.feed.Goals as goal

pub returns-in-Ok-clause-answered : goal.returns-in-Ok-clause-answered
returns-in-Ok-clause-answered c = λ bytes h.
    let p : PreviewState = record { reader = c.self.inside.reader; scans = c.self.inside.scans; stop = c.self.inside.stop } in
    viewed_ok p c.view_piece.new.reader c.args.piece.now c.view_piece.result c.in-Ok.fed c.in-Ok.is c.view_piece.ensures.viewed bytes (subst (λ (q : PreviewState). HasViewed bytes q) (sym c.self.view_is) h)
