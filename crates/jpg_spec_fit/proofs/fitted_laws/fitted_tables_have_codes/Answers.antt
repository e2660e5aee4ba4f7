use Rattle.jpg_spec_fit.proofs.FittedCodes.{fitted_has}
use Rattle.jpg_spec_fit.proofs.fitted_laws.fitted_tables_have_codes.Goals as goal

pub returns : goal.returns
returns c = fitted_has
