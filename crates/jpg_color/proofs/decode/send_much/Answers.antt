use Rattle.jpg_color.proofs.Sent.{sends_nothing}
use Rattle.jpg_color.proofs.decode.send_much.Goals as goal

pub returns-then-as_slice-lt-MANY-clause-sent : goal.returns-then-as_slice-lt-MANY-clause-sent
returns-then-as_slice-lt-MANY-clause-sent g c = sends_nothing
