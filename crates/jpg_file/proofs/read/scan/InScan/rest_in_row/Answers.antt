use Rattle.std.proofs.Common.{Bool, List, ap, subst}
use Rattle.jpg_file.specs.Read.InData.{AfterBytes}
use Rattle.jpg_file.specs.Read.Strips.{PassesRowBits}
use Rattle.jpg_file.specs.Read.Window.{TakesBitsInto}
use Rattle.jpg_file.specs.declared.read.scan.InScan.{InScan}
use Rattle.jpg_file.specs.declared.read.window.Window.TheVariants as window
use Rattle.jpg_file.proofs.ByRow.RowTurns.{half_then, open_half}
use Rattle.jpg_file.proofs.Scans.ScanBytes.{as_stepped}
use Rattle.jpg_file.proofs.read.scan.InScan.rest_in_row.Goals as goal

pub take_bits-taken-requires : goal.take_bits-taken-requires
take_bits-taken-requires c =
    let o = c.requires in let i = o.half in
    record { whole = o.whole; shows = o.row; given = open_half i.0 i.1 i.2 i.3 c.args.rows.now.waiting c.args.self.now o.whole i.4; fits = o.due }

pub returns-clause-takes : goal.returns-clause-takes
returns-clause-takes c = λ limits items contents bytes whole at h.
    let t = subst (λ (z : List Bool). TakesBitsInto (window.Row c.args.rows.now) c.args.self.now.machine z c.take_bits-taken.result (window.Row c.take_bits-taken.new.self) c.take_bits-taken.new.machine) c.copy-store.ensures c.take_bits-taken.ensures.takes whole at (open_half limits items contents bytes c.args.rows.now.waiting c.args.self.now whole h) in
    let k = half_then limits items contents bytes c.args.rows.now.waiting c.take_bits-taken.new.self.waiting c.args.self.now whole t.0 c.take_bits-taken.result c.take_bits-taken.new.machine h t.2 in
    (t.0, t.1, as_stepped c.args.self.now c.stepped.new.self c.take_bits-taken.new.machine c.take_bits-taken.result c.stepped.result (λ a v. AfterBytes limits items contents bytes a c.take_bits-taken.new.self.waiting v t.0) c.stepped.ensures.answer c.stepped.ensures.work k)

pub returns-clause-passes : goal.returns-clause-passes
returns-clause-passes c =
    let w = c.args.self.now in let t = c.take_bits-taken in
    let h = c.requires.half.4 in
    let took = subst (λ (z : List Bool). PassesRowBits c.args.rows.now w.machine z t.result t.new.self t.new.machine) c.copy-store.ensures t.ensures.more in
    record { due = ap (λ (q : InScan). q.whole) h.same; taken = t.result; machine = t.new.machine; is = c.stepped.ensures.answer; work = c.stepped.ensures.work; took = took }
