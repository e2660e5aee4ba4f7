use Rattle.std.proofs.Common.{sym, ap}
use Rattle.jpg_preview.specs.Viewing.{PreviewState}
use Rattle.jpg_preview.proofs.PieceSteps.{taken_of}
use Rattle.jpg_preview.proofs.preview.Preview.take.Goals as goal

pub returns-clause-meaning : goal.returns-clause-meaning
returns-clause-meaning c = (taken_of c.self.inside.reader c.args.self.now c.take.result (ap (λ (p : PreviewState). p.reader) (sym c.self.view_is)) (c.take.ensures.meaning, c.take.ensures.early)).0

pub returns-clause-early : goal.returns-clause-early
returns-clause-early c = (taken_of c.self.inside.reader c.args.self.now c.take.result (ap (λ (p : PreviewState). p.reader) (sym c.self.view_is)) (c.take.ensures.meaning, c.take.ensures.early)).1
