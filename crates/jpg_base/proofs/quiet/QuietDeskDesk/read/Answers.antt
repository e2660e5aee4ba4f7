use Rattle.jpg_base.proofs.QuietReads.{reads_open}
use Rattle.jpg_base.proofs.quiet.QuietDeskDesk.read.Goals as goal

pub returns-clause-desk : goal.returns-clause-desk
returns-clause-desk c =
    let d = c.args.self.now in
    reads_open d.input c.give.new.self d.is_open d.is_created c.give.result c.give.new.buf c.requires.open c.give.ensures.same c.give.ensures.gives
