use Rattle.std.proofs.Common.{sym, subst}
use Rattle.jpg_file.specs.Read.ReadFile.{HasRead, ReaderState}
use Rattle.jpg_file.specs.Read.ScanPieces.{ScansEnded}
use Rattle.jpg_file.proofs.Files.ReaderFed.{state_ended}
use Rattle.jpg_file.proofs.read.reader.Reader.scans_ended.Goals as goal
use Rattle.jpg_file.specs.Read.File.{limits_of}

pub returns : goal.returns
returns c = λ bytes h.
    let k = (subst (λ (q : ReaderState). HasRead bytes q) (sym c.self.view_is) h).open in
    subst (λ (q : ReaderState). ScansEnded q.limits bytes c.scans_ended.result) c.self.view_is (subst (ScansEnded (limits_of c.self.inside.work) bytes) (sym c.scans_ended.ensures) (state_ended (limits_of c.self.inside.work) bytes c.self.inside.work k))
