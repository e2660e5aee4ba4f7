use Rattle.jpg_seq.proofs.Written.{can_give, keeps_on}
use Rattle.jpg_seq.proofs.kept_scan.KeptScan.put.Goals as goal

pub returns-in-Ok-clause-puts : goal.returns-in-Ok-clause-puts
returns-in-Ok-clause-puts g c = λ s can.
    let f = g.V.BlockView.numbers c.args.view.now in
    let blocks = g.V.BlockView.blocks c.args.view.now in
    let k = c.args.self.now in
    let few = c.requires.some in
    keeps_on s f blocks c.args.count k _ few.0 few.1 can c.in-Ok.ensures.cursor c.in-Ok.ensures.left (c.in-Ok.ensures.given _ (can_give s f blocks c.args.count k few.0 few.1 can))
