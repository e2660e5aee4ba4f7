use Rattle.jpg_spec_write.proofs.SequentialCodes.{all_written_spell, all_typical_coded}
use Rattle.jpg_spec_write.proofs.scan_text_laws.written_scans_are_in_the_grammar.Goals as goal

pub returns-clause-any : goal.returns-clause-any
returns-clause-any c = all_written_spell

pub returns-clause-typical : goal.returns-clause-typical
returns-clause-typical c = all_typical_coded
