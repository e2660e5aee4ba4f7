use Rattle.std.proofs.Common.{sym, ap}
use Rattle.jpg_preview.specs.Viewing.{PreviewState}
use Rattle.jpg_preview.proofs.PieceSteps.{view_room}
use Rattle.jpg_preview.proofs.preview.Preview.room.Goals as goal

pub returns : goal.returns
returns c = view_room c.args.self.now c.self.inside.reader c.room.result (ap (λ (p : PreviewState). p.reader) (sym c.self.view_is)) c.room.ensures.left
