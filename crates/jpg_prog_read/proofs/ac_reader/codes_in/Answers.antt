use Rattle.std.proofs.Common.{sym}
use Rattle.jpg_prog_read.proofs.ac_reader.codes_in.Goals as goal

pub returns : goal.returns
returns c = (c.in-Some.table.now, sym c.in-Some.ensures, c.new.ensures)
