use Rattle.jpg_huff.proofs.Emitted.{emits_nothing}
use Rattle.jpg_huff.proofs.buffer.Buffer.make_room.Goals as goal

pub returns-else-self-room-clause-emits : goal.returns-else-self-room-clause-emits
returns-else-self-room-clause-emits g c = emits_nothing (g.D.Desk.state c.args.desk.now) c.args.self.now
