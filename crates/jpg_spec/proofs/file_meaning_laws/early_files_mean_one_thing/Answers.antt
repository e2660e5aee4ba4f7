use Rattle.jpg_spec.proofs.EndsEarly.EarlyOnce.{means_not_early, meaning_once}
use Rattle.jpg_spec.proofs.file_meaning_laws.early_files_mean_one_thing.Goals as goal

pub returns-clause-one : goal.returns-clause-one
returns-clause-one c = meaning_once

pub returns-clause-never_both : goal.returns-clause-never_both
returns-clause-never_both c = means_not_early
