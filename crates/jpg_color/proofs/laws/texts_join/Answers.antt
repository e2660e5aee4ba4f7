use Rattle.jpg_color.proofs.DrawnLaws.{texts_join}
use Rattle.jpg_color.proofs.laws.texts_join.Goals as goal

pub returns : goal.returns
returns c = texts_join
