use Rattle.jpg_spec.proofs.Texts.TextsRead.{has_one_answer}
use Rattle.jpg_dct.proofs.TableRest.{reads_tables}
use Rattle.jpg_dct.proofs.laws.texts_tell_tables_once.Goals as goal

pub returns : goal.returns
returns c = has_one_answer reads_tables
