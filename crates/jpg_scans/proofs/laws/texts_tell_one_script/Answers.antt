use Rattle.jpg_spec.proofs.Texts.TextsRead.{has_one_answer}
use Rattle.jpg_scans.proofs.ScriptRest.{reads_scripts}
use Rattle.jpg_scans.proofs.laws.texts_tell_one_script.Goals as goal

pub returns : goal.returns
returns c = has_one_answer reads_scripts
