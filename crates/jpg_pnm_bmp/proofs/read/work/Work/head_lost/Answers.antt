use Rattle.std.proofs.Common.{◌++◌, ◌∷◌, [], ap, arith, length}
use Rattle.std.proofs.lemmas.List.{length-append}
use Rattle.jpg_pnm_bmp.proofs.ShownNone.{head_short}
use Rattle.jpg_pnm_bmp.proofs.read.work.Work.head_lost.Goals as goal

pub returns-then-held-lt53-clause-led : goal.returns-then-held-lt53-clause-led
returns-then-held-lt53-clause-led c =
    let head = c.args.self.now.head in
    head_short (head ++ c.args.byte ∷ []) (omega (arith, length-append head (c.args.byte ∷ []), c.if-held-lt53.true, ap length c.as_slice-held.ensures))
