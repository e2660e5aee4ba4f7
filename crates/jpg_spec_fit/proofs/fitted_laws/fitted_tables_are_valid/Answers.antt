use Rattle.jpg_spec_fit.proofs.FittedTables.{fitted_whole}
use Rattle.jpg_spec_fit.proofs.fitted_laws.fitted_tables_are_valid.Goals as goal

pub returns : goal.returns
returns c = fitted_whole
