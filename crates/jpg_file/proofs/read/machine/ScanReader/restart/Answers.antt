use Rattle.std.proofs.Common.{subst}
use Rattle.jpg_file.specs.Read.Machine.{ReaderReady}
use Rattle.jpg_file.specs.declared.read.machine.ScanReader.{ScanReader}
use Rattle.jpg_file.proofs.read.machine.ScanReader.restart.Goals as goal

pub returns-in-DcFirst-clause-begun : goal.returns-in-DcFirst-clause-begun
returns-in-DcFirst-clause-begun c = λ i ready many.
    let r = subst (λ (m : ScanReader). ReaderReady m i) c.in-DcFirst.is ready in
    (c.restart-in-DcFirst.ensures.begun i r.0 many, r.1)

pub returns-in-Ac-clause-begun : goal.returns-in-Ac-clause-begun
returns-in-Ac-clause-begun c = λ i ready many.
    let r = subst (λ (m : ScanReader). ReaderReady m i) c.in-Ac.is ready in
    (c.restart-in-Ac.ensures.begun i r.0 many, r.1)
