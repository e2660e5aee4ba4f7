use Rattle.std.proofs.Common.{◌∙◌, ap, length}
use Rattle.jpg_huff.specs.Sets.{dc_tables, ac_tables}
use Rattle.jpg_file.proofs.Writing.ScansDue.{four_given, two_slots}
use Rattle.jpg_file.proofs.write.sets.put_four.Goals as goal

pub returns : goal.returns
returns c tables dc dc_chroma ac ac_chroma =
    let s2 = c.set_dc-2.new.self in
    let s4 = c.set_ac-2.new.self in
    let four = c.slots.ensures in
    let for_dc = c.set_ac-2.ensures.dc ∙ c.set_ac.ensures.dc ∙ c.set_dc-2.ensures.dc in
    let ac_long = ap length (c.set_dc-2.ensures.ac ∙ c.set_dc.ensures.ac) ∙ four.ac in
    four_given s4 tables
    (two_slots (dc_tables c.args.set.now) (dc_tables c.set_dc.new.self) (dc_tables s4) c.args.dc.now c.args.dc_chroma.now (tables 0) four.dc c.set_dc.ensures.dc for_dc dc dc_chroma)
    (two_slots (ac_tables s2) (ac_tables c.set_ac.new.self) (ac_tables s4) c.args.ac.now c.args.ac_chroma.now (tables 1) ac_long c.set_ac.ensures.ac c.set_ac-2.ensures.ac ac ac_chroma)
