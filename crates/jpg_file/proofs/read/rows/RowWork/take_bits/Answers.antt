use Rattle.std.proofs.Common.{◌-◌, arith}
use Rattle.jpg_file.specs.declared.read.machine.ScanReader.TheVariants.{Sequential}
use Rattle.jpg_file.proofs.ByRow.Faults.{row_stops}
use Rattle.jpg_file.proofs.ByRow.RowTurns.{counts_row, data_takes, row_takes, some_left}
use Rattle.jpg_file.proofs.read.rows.RowWork.take_bits.Goals as goal

pub returns-clause-takes : goal.returns-clause-takes
returns-clause-takes c =
    let w = c.args.self.now in let t = c.bits_from-taken in
    data_takes w c.args.machine.now (Sequential t.new.self) t.new.coefs t.result (w.left - (c.units_left-before.result - c.units_left.result)) c.args.store t.new.store c.waiting_of-self.result c.waiting_of-self.ensures
    (row_takes w.tops c.args.machine.now c.in-Sequential.machine w.coefs c.in-Sequential.is w.left t.new.self t.new.coefs c.args.store t.new.store t.result t.ensures.takes)

pub returns-clause-more : goal.returns-clause-more
returns-clause-more c =
    let w = c.args.self.now in let t = c.bits_from-taken in
    let took = row_takes w.tops c.args.machine.now c.in-Sequential.machine w.coefs c.in-Sequential.is w.left t.new.self t.new.coefs c.args.store t.new.store t.result t.ensures.takes in
    let few = some_left w.left c.in-Sequential.machine t.new.self t.result t.ensures.passes in (
      row_stops w c.args.machine.now (Sequential t.new.self) t.new.coefs c.args.store t.new.store t.result took,
      counts_row w c.args.machine.now c.in-Sequential.machine t.new.self t.new.coefs t.result _ c.waiting_of-self.result t.new.store c.in-Sequential.is t.ensures.passes (omega (arith, few, t.ensures.passes.left, c.units_left-before.ensures, c.units_left.ensures)) c.waiting_of-self.ensures,
    )
