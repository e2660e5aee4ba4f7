use Rattle.jpg_color.proofs.DrawnLaws.{drawn_alike}
use Rattle.jpg_color.proofs.laws.first_rows_stand_for_more.Goals as goal

pub returns : goal.returns
returns c = drawn_alike
