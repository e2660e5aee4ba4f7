use Rattle.std.proofs.Common.{[], ◌∙◌, ap, sym, subst, true}
use Rattle.jpg_file.specs.Read.ReadFile.{HasRead, ReaderState}
use Rattle.jpg_file.proofs.ByRow.RowsAnswered.{read_nothing}
use Rattle.jpg_file.proofs.read.reader.Reader.strips.Goals as goal

pub returns-clause-read : goal.returns-clause-read
returns-clause-read c =
    let r = c.strips_keeping-reader.ensures.read in
    read_nothing _ true _ (ap (λ (r : ReaderState). r.rows) c.reader.view_is ∙ r.none) (subst (λ (r : ReaderState). HasRead [] r) (sym c.reader.view_is) r.read)
