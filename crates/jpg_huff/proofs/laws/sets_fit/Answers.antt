use Rattle.jpg_huff.specs.Sets.{dc_tables, ac_tables}
use Rattle.jpg_huff.proofs.Sets.{have_tables}
use Rattle.jpg_huff.proofs.laws.sets_fit.Goals as goal

pub returns : goal.returns
returns c = record { dc = λ set. have_tables (dc_tables set); ac = λ set. have_tables (ac_tables set) }
