use Rattle.std.proofs.Common.{sym, ap, ◌∙◌, arith}
use Rattle.jpg_spec_write.specs.FileText.{with_table}
use Rattle.jpg_huff.specs.Tables.{table_of}
use Rattle.jpg_file.specs.Write.WriteScan.{given_by}
use Rattle.jpg_file.proofs.Writing.ScansDue.{put_dc, put_ac}
use Rattle.jpg_file.proofs.write.tables.put.Goals as goal

pub returns-then-class-eq0 : goal.returns-then-class-eq0
returns-then-class-eq0 c =
    let four = c.slots.ensures in
    let long = four.dc in
    put_dc c.args.given.now c.set_dc.new.self c.args.slot c.args.table.now (omega (arith, long, c.requires.slot)) c.set_dc.ensures.dc c.set_dc.ensures.ac
    ∙ ap (λ k. with_table (given_by c.args.given.now) k c.args.slot (table_of c.args.table.now)) (sym c.if-class-eq0.true)

pub returns-else-class-eq0 : goal.returns-else-class-eq0
returns-else-class-eq0 c =
    let four = c.slots.ensures in
    let long = four.ac in
    put_ac c.args.given.now c.set_ac.new.self c.args.slot c.args.table.now (omega (arith, long, c.requires.slot)) c.set_ac.ensures.ac c.set_ac.ensures.dc
    ∙ ap (λ k. with_table (given_by c.args.given.now) k c.args.slot (table_of c.args.table.now)) (omega (arith, c.requires.class, c.if-class-eq0.false))
