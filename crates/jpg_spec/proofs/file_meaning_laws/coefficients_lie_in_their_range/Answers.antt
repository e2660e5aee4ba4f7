use Rattle.jpg_spec.proofs.EndsEarly.EarlyRanges.{early_in_range}
use Rattle.jpg_spec.proofs.Files.Ranges.{leads_in_range, means_in_range}
use Rattle.jpg_spec.proofs.file_meaning_laws.coefficients_lie_in_their_range.Goals as goal

pub returns-clause-items : goal.returns-clause-items
returns-clause-items c = λ limits items blocks l. leads_in_range limits items blocks l

pub returns-clause-meaning : goal.returns-clause-meaning
returns-clause-meaning c = λ limits bytes M w. means_in_range limits bytes M w

pub returns-clause-early : goal.returns-clause-early
returns-clause-early c = early_in_range
