use Rattle.std.proofs.Common.{◌++◌, ◌∙◌, Bool, subst, arith}
use Rattle.jpg_spec.specs.Meaning.{Meaning}
use Rattle.jpg_desk.specs.ReadFront.{TakesFront, front_reader}
use Rattle.jpg_desk.specs.declared.front.FrontSink.{FrontSink}
use Rattle.jpg_desk.proofs.FrontTaken.{front_piece}
use Rattle.jpg_desk.proofs.Pumped.{feeds}
use Rattle.jpg_desk.proofs.front.FrontSinkPieceSink.feed.Goals as goal

pub take_piece-requires-clause-more : goal.take_piece-requires-clause-more
take_piece-requires-clause-more g c = c.requires.2.fed.fed.fed.fed.fed.read.undone

pub take_piece-requires-clause-limits : goal.take_piece-requires-clause-limits
take_piece-requires-clause-limits g c = c.requires.2.fed.fed.fed.limits

pub take_piece-requires-clause-short : goal.take_piece-requires-clause-short
take_piece-requires-clause-short g c = (let few = c.requires.2.reads.few in omega (arith, few))

pub returns-clause-fed : goal.returns-clause-fed
returns-clause-fed g c =
    let e = c.take_piece.ensures in
    let old = c.args.self.now in
    let new : FrontSink = record { preview = c.take_piece.new.preview; gray = old.gray } in
    feeds FrontSink Meaning front_reader old new (g.D.Desk.state c.args._desk.now) c.args.piece.now c.take_piece.result
    (λ from bytes h most.
    (let taken = subst (λ (gray : Bool). TakesFront gray old.preview c.args.piece.now c.take_piece.result new.preview) h.gray e.taken in
    front_piece from new (bytes ++ c.args.piece.now) c.take_piece.result e.limits (e.keeping ∙ h.keeping) h.gray e.done (taken from.preview.scans bytes h.fed)))
