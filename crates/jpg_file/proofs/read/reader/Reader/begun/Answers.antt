use Rattle.std.proofs.Common.{sym, subst}
use Rattle.jpg_file.specs.Read.ReadFile.{HasRead, ReaderState, TellsBegun, HasGivenRow, HasReadRows}
use Rattle.jpg_file.proofs.Files.Leaving.{tells_begun}
use Rattle.jpg_file.proofs.ByRow.RowsAnswered.{begun_given, begun_rows}
use Rattle.jpg_file.proofs.read.reader.Reader.begun.Goals as goal

pub returns-clause-read : goal.returns-clause-read
returns-clause-read c = λ bytes h.
    let k = subst (λ (r : ReaderState). HasRead bytes r) (sym c.self.view_is) h in
    subst (λ (r : ReaderState). TellsBegun r.limits bytes c.is_complete.result) c.self.view_is (tells_begun _ _ _ _ k.open c.is_complete.ensures)

pub returns-clause-rows : goal.returns-clause-rows
returns-clause-rows c = λ bytes m h.
    begun_rows bytes m _ c.is_complete.result (subst (λ (r : ReaderState). HasReadRows bytes m r) (sym c.self.view_is) h) c.is_complete.ensures

pub returns-clause-given : goal.returns-clause-given
returns-clause-given c = λ bytes m h.
    begun_given bytes m _ c.is_complete.result (subst (λ (r : ReaderState). HasGivenRow bytes m r) (sym c.self.view_is) h) c.is_complete.ensures
