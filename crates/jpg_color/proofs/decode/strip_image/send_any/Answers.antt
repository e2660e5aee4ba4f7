use Rattle.jpg_color.proofs.Sent.{sends_nothing}
use Rattle.jpg_color.proofs.decode.strip_image.send_any.Goals as goal

pub returns-then-is_empty-clause-sent : goal.returns-then-is_empty-clause-sent
returns-then-is_empty-clause-sent g c = sends_nothing
