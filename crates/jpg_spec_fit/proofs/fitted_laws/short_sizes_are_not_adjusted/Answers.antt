use Rattle.jpg_spec_fit.proofs.FittedShort.{short_counts}
use Rattle.jpg_spec_fit.proofs.fitted_laws.short_sizes_are_not_adjusted.Goals as goal

pub returns : goal.returns
returns c = short_counts
