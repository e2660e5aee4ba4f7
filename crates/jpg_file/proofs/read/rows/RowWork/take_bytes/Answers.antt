use Rattle.std.proofs.Common.{length, length-append, get_or, ◌∙◌, ◌++◌, List, Bool, ap, ◌-◌, drop, arith}
use Rattle.jpg_spec.specs.Bits.{bits_of, bits_of_bytes}
use Rattle.jpg_spec.proofs.Basics.Strings.{length-bits_of}
use Rattle.jpg_file.specs.declared.read.machine.ScanReader.TheVariants.{Sequential}
use Rattle.jpg_file.proofs.Scans.Runs.{given_bytes}
use Rattle.jpg_file.proofs.ByRow.Faults.{run_stops_row, last_in_row}
use Rattle.jpg_file.proofs.ByRow.RowTurns.{counts_row, row_takes, run_takes_row, some_in_row, some_left}
use Rattle.jpg_file.proofs.read.rows.RowWork.take_bytes.Goals as goal

pub overflow_sub-given : goal.overflow_sub-given
overflow_sub-given c =
    let w = c.args.self.now in let g = c.bytes-got in let bytes = c.args.bytes.now in
    omega (arith, c.div_ceil-given.ensures, some_in_row w c.args.machine.now (Sequential g.new.self) g.new.coefs g.result.taken bytes g.result.bits c.div_ceil-given.result c.requires.can c.requires.some g.ensures.within (given_bytes bytes g.result.bits c.div_ceil-given.result g.ensures.within c.div_ceil-given.ensures) (row_takes w.tops c.args.machine.now c.in-Sequential.machine w.coefs c.in-Sequential.is w.left g.new.self g.new.coefs (bits_of_bytes bytes) (drop g.result.bits (bits_of_bytes bytes)) g.result.taken g.ensures.takes))

pub overflow_sub-given-2 : goal.overflow_sub-given-2
overflow_sub-given-2 c =
    let w = c.args.self.now in let g = c.bytes-got in let bytes = c.args.bytes.now in
    omega (arith, c.div_ceil-given.ensures, some_in_row w c.args.machine.now (Sequential g.new.self) g.new.coefs g.result.taken bytes g.result.bits c.div_ceil-given.result c.requires.can c.requires.some g.ensures.within (given_bytes bytes g.result.bits c.div_ceil-given.result g.ensures.within c.div_ceil-given.ensures) (row_takes w.tops c.args.machine.now c.in-Sequential.machine w.coefs c.in-Sequential.is w.left g.new.self g.new.coefs (bits_of_bytes bytes) (drop g.result.bits (bits_of_bytes bytes)) g.result.taken g.ensures.takes))

pub skip-requires : goal.skip-requires
skip-requires c =
    let byte = get_or c.args.bytes.now (c.div_ceil-given.result - 1) 0 in
    omega (arith, c.div_ceil-given.ensures, ap length c.push.ensures, length-append c.new-last.result (bits_of 8 byte), length-bits_of 8 byte)

pub returns-clause-takes : goal.returns-clause-takes
returns-clause-takes c =
    let w = c.args.self.now in let g = c.bytes-got in let bytes = c.args.bytes.now in
    let size = given_bytes bytes g.result.bits c.div_ceil-given.result g.ensures.within c.div_ceil-given.ensures in
    run_takes_row w c.args.machine.now (Sequential g.new.self) g.new.coefs g.result.taken (w.left - (c.units_left-before.result - c.units_left.result)) bytes g.result.bits c.div_ceil-given.result c.skip.new.self c.waiting_of-self.result c.requires.some g.ensures.within size (c.skip.ensures ∙ ap (drop _) (c.push.ensures ∙ ap (λ (z : List Bool). z ++ bits_of 8 (get_or bytes (c.div_ceil-given.result - 1) 0)) c.new-last.ensures)) c.waiting_of-self.ensures (row_takes w.tops c.args.machine.now c.in-Sequential.machine w.coefs c.in-Sequential.is w.left g.new.self g.new.coefs (bits_of_bytes bytes) (drop g.result.bits (bits_of_bytes bytes)) g.result.taken g.ensures.takes)

pub returns-clause-more : goal.returns-clause-more
returns-clause-more c =
    let w = c.args.self.now in let g = c.bytes-got in let bytes = c.args.bytes.now in
    let rest = drop g.result.bits (bits_of_bytes bytes) in
    let size = given_bytes bytes g.result.bits c.div_ceil-given.result g.ensures.within c.div_ceil-given.ensures in
    let took = row_takes w.tops c.args.machine.now c.in-Sequential.machine w.coefs c.in-Sequential.is w.left g.new.self g.new.coefs (bits_of_bytes bytes) rest g.result.taken g.ensures.takes in
    let few = some_left w.left c.in-Sequential.machine g.new.self g.result.taken g.ensures.passes in (
      run_stops_row w c.args.machine.now (Sequential g.new.self) g.new.coefs bytes rest c.div_ceil-given.result g.result.taken size took,
      last_in_row w c.args.machine.now (Sequential g.new.self) g.new.coefs bytes rest c.div_ceil-given.result g.result.taken c.requires.some size took,
      counts_row w c.args.machine.now c.in-Sequential.machine g.new.self g.new.coefs g.result.taken _ c.waiting_of-self.result c.skip.new.self c.in-Sequential.is g.ensures.passes (omega (arith, few, g.ensures.passes.left, c.units_left-before.ensures, c.units_left.ensures)) c.waiting_of-self.ensures,
    )
