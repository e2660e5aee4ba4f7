use Rattle.jpg_spec_write.proofs.Sound.{typical_valid}
use Rattle.jpg_spec_write.proofs.scan_text_laws.typical_tables_are_valid.Goals as goal

pub returns : goal.returns
returns c = λ class slot table e. typical_valid class slot table e
