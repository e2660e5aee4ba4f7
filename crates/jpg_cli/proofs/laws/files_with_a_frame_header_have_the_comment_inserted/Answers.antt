use Rattle.jpg_cli.proofs.Outcomes.Certain.{inserted_certain}
use Rattle.jpg_cli.proofs.laws.files_with_a_frame_header_have_the_comment_inserted.Goals as goal

pub returns : goal.returns
returns c = λ old task has new why none inserted. inserted_certain old new task why has none inserted
