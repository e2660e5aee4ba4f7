use Rattle.jpg_prog_read.proofs.DcRoom.{room_known}
use Rattle.jpg_prog_read.proofs.dc_laws.known_dc_values_have_room.Goals as goal

pub returns : goal.returns
returns c = room_known
