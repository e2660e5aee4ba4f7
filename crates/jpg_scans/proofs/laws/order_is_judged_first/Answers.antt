use Rattle.jpg_spec.specs.declared.fault.Fault.TheVariants.{RepeatedScan, Progression}
use Rattle.jpg_scans.proofs.Histories.{refused_is, shown_is}
use Rattle.jpg_scans.proofs.laws.order_is_judged_first.Goals as goal

pub returns-clause-repeated : goal.returns-clause-repeated
returns-clause-repeated c = λ f before head. (refused_is f before head RepeatedScan, shown_is f before head RepeatedScan (λ e. cc) (λ e. cc))

pub returns-clause-progression : goal.returns-clause-progression
returns-clause-progression c = λ f before head. (refused_is f before head Progression, shown_is f before head Progression (λ e. cc) (λ e. cc))
