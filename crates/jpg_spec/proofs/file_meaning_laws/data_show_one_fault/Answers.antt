use Rattle.jpg_spec.proofs.Bits.FaultsOnce.{data_show_once}
use Rattle.jpg_spec.proofs.file_meaning_laws.data_show_one_fault.Goals as goal

pub returns : goal.returns
returns c = λ coding units f g bits sound d e. data_show_once coding units f g bits sound d e
