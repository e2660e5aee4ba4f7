use Rattle.jpg_huff.specs.Sets.{ac_tables, in_slot}
use Rattle.jpg_prog_write.proofs.Texts.{none_code}
use Rattle.jpg_prog_write.proofs.put.ac_code.Goals as goal

pub returns-in-None-clause-first : goal.returns-in-None-clause-first
returns-in-None-clause-first c = none_code (in_slot (ac_tables c.args.codes.tables.now) c.args.codes.slot) c.args.symbol c.in-None.ensures
