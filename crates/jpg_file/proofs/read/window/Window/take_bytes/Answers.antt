use Rattle.std.proofs.Common.{[], refl, subst}
use Rattle.jpg_coefs.specs.Picture.{Picture}
use Rattle.jpg_file.specs.Read.Machine.{GivesRun, any_scan}
use Rattle.jpg_file.specs.Read.Window.{Shows}
use Rattle.jpg_file.specs.declared.read.window.Window.{Window}
use Rattle.jpg_file.specs.declared.read.machine.ScanReader.{ScanReader}
use Rattle.jpg_file.proofs.read.window.Window.take_bytes.Goals as goal

pub returns-in-All-clause-takes : goal.returns-in-All-clause-takes
returns-in-All-clause-takes c = λ whole is given.
    let t = c.run in
    (t.new.coefs, refl, subst (λ (q : Picture). GivesRun ScanReader any_scan c.args.machine.now q c.args.bytes.now t.result.0 t.result.1 [] t.new.self t.new.coefs) (subst (λ (o : Window). Shows o whole) c.in-All.is is) t.ensures)
