use Rattle.jpg_spec_fit.proofs.FittedTables.{fitted_found, fitted_only}
use Rattle.jpg_spec_fit.proofs.fitted_laws.fitted_tables_have_what_is_sent.Goals as goal

pub returns : goal.returns
returns c = λ counts symbol. (fitted_only counts symbol, fitted_found counts symbol)
