use Rattle.jpg_spec_fit.proofs.FewestSteps.{fewest_bits}
use Rattle.jpg_spec_fit.proofs.fitted_laws.code_sizes_take_the_fewest_bits.Goals as goal

pub returns : goal.returns
returns c = λ counts most sizes is. fewest_bits most counts sizes is
