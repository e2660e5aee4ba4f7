use Rattle.std.proofs.Common.{◌∙◌, Bool, subst}
use Rattle.jpg_spec.specs.Meaning.{Meaning}
use Rattle.jpg_desk.specs.ReadFront.{EndsInput, front_reader}
use Rattle.jpg_desk.specs.declared.front.FrontSink.{FrontSink}
use Rattle.jpg_desk.proofs.FrontTaken.{front_end}
use Rattle.jpg_desk.proofs.Pumped.{ends}
use Rattle.jpg_desk.proofs.front.FrontSinkPieceSink.end.Goals as goal

pub at_end-requires-clause-more : goal.at_end-requires-clause-more
at_end-requires-clause-more g c = c.requires.2.fed.fed.fed.fed.fed.read.undone

pub at_end-requires-clause-limits : goal.at_end-requires-clause-limits
at_end-requires-clause-limits g c = c.requires.2.fed.fed.fed.limits

pub returns : goal.returns
returns g c =
    let e = c.at_end.ensures in
    let old = c.args.self.now in
    let new : FrontSink = record { preview = c.at_end.new.preview; gray = old.gray } in
    ends FrontSink Meaning front_reader old new (g.D.Desk.state c.args._desk.now) c.at_end.result (λ more. more)
    (λ from bytes h short.
    (let ended = subst (λ (gray : Bool). EndsInput gray old.preview c.at_end.result new.preview) h.gray e.ended in
    front_end from new bytes c.at_end.result e.limits (e.keeping ∙ h.keeping) e.done (ended from.preview.scans bytes h.fed)))
