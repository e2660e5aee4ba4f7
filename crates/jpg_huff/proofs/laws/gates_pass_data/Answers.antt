use Rattle.jpg_huff.proofs.Gates.{feeds_data}
use Rattle.jpg_huff.proofs.laws.gates_pass_data.Goals as goal

pub returns : goal.returns
returns c = λ byte bytes s answers new f. feeds_data byte bytes answers new s f
