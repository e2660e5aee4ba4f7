use Rattle.jpg_spec_write.proofs.StandardScripts.{sequential_has_none, standard_passes, standard_begins, meaning_has}
use Rattle.jpg_spec_write.proofs.script_laws.own_scripts_have_no_fault.Goals as goal

pub returns-clause-sequential : goal.returns-clause-sequential
returns-clause-sequential c = λ f is. sequential_has_none f is

pub returns-clause-standard : goal.returns-clause-standard
returns-clause-standard c = λ f colour is. standard_passes f colour is

pub returns-clause-progressive : goal.returns-clause-progressive
returns-clause-progressive c = λ f colour is. standard_begins f colour is

pub returns-clause-colours : goal.returns-clause-colours
returns-clause-colours c = meaning_has
