use Rattle.jpg_spec_write.specs.ScanText.{typical_table}
use Rattle.jpg_file.proofs.write.sets.put_typical.Goals as goal

pub returns : goal.returns
returns c = c.put_four.ensures typical_table c.typical.ensures.table c.typical-2.ensures.table c.typical-3.ensures.table c.typical-4.ensures.table
