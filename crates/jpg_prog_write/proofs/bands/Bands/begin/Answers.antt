use Rattle.std.proofs.Common.{List, ◌∷◌, ap, sym, ◌∙◌}
use Rattle.jpg_spec_write.specs.Sending.{Sent}
use Rattle.jpg_prog_write.specs.Bands.{elements_waiting}
use Rattle.jpg_prog_write.proofs.ElementsDue.{begins}
use Rattle.jpg_prog_write.proofs.bands.Bands.begin.Goals as goal

pub returns-clause-left : goal.returns-clause-left
returns-clause-left c = λ later.
    let b = c.args.self.now in
    let f = c.front_end-self.ensures in
    let short = c.kept-kept.ensures.short c.requires.short in
    ap (λ (first : List Sent). elements_waiting b (first ∷ later)) (sym c.kept-kept.ensures.sent)
    ∙ begins b.band b.bands c.front_end-self.result b.waiting.items c.kept-kept.result later c.requires.ready.band short.long f.within.0 f.within.1 f.new f.none
