use Rattle.jpg_prog_read.proofs.Known.{gives_room, band_room}
use Rattle.jpg_prog_read.proofs.laws.known_bands_have_room.Goals as goal

pub returns-clause-value : goal.returns-clause-value
returns-clause-value c = gives_room

pub returns-clause-band : goal.returns-clause-band
returns-clause-band c = band_room
