use Rattle.jpg_color.proofs.Sent.{sends_none}
use Rattle.jpg_color.proofs.decode.send_part.Goals as goal

pub returns-in-Err-clause-sends : goal.returns-in-Err-clause-sends
returns-in-Err-clause-sends g c = record { sent = sends_none c.in-Err.ensures.0; answer = tt; end = tt }
