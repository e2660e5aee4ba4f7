use Rattle.std.proofs.Common.{[], drop}
use Rattle.jpg_spec.specs.Bits.{bits_of_bytes}
use Rattle.jpg_seq.specs.Reader.{sequential}
use Rattle.jpg_seq.proofs.Readings.{all_taken}
use Rattle.jpg_prog_read.specs.RepresentsAcScan.{progressive_ac}
use Rattle.jpg_prog_read.specs.DcFirstPass.{first_pass}
use Rattle.jpg_prog_read.specs.DcRefinement.{refinement}
use Rattle.jpg_file.specs.Read.Machine.{any_scan}
use Rattle.jpg_file.specs.declared.read.machine.ScanReader.TheVariants.{Sequential, DcFirst, DcRefine, Ac}
use Rattle.jpg_file.proofs.ByRow.RowTurns.{own}
use Rattle.jpg_file.proofs.Scans.Runs.{given_bytes, run_all}
use Rattle.jpg_file.proofs.Scans.Machines.{is_sequential, is_dc_first, is_dc_later, is_ac, run_of}
use Rattle.jpg_file.proofs.read.machine.ScanReader.run.Goals as goal

pub returns-in-Sequential : goal.returns-in-Sequential
returns-in-Sequential c =
    let bytes = c.args.bytes.now in let got = c.bytes-got in let bits = bits_of_bytes bytes in
    let m = c.in-Sequential.machine in let coefs = c.args.coefs.now in
    rw c.in-Sequential.is (run_of (λ m. Sequential m) sequential any_scan is_sequential m got.new.self coefs got.new.coefs bytes _ got.result.taken []
    (run_all sequential m got.new.self coefs got.new.coefs c.units_left-all.result bytes _ _ got.result.taken c.requires.some (λ e. c.units_left-all.ensures)
    (given_bytes bytes got.result.bits _ got.ensures.within c.div_ceil.ensures)
    (all_taken c.units_left-all.result m got.new.self coefs got.new.coefs bits (drop got.result.bits bits) got.result.taken (own c.args.self.now m coefs c.in-Sequential.is c.requires.open) got.ensures.takes)))

pub returns-in-DcFirst : goal.returns-in-DcFirst
returns-in-DcFirst c = rw c.in-DcFirst.is (run_of (λ m. DcFirst m) first_pass any_scan is_dc_first c.in-DcFirst.machine c.take_run.new.machine c.args.coefs.now c.take_run.new.coefs c.args.bytes.now c.take_run.result.0 c.take_run.result.1 [] c.take_run.ensures)

pub returns-in-DcRefine : goal.returns-in-DcRefine
returns-in-DcRefine c = rw c.in-DcRefine.is (run_of (λ m. DcRefine m) refinement any_scan is_dc_later c.in-DcRefine.machine c.take_run-in-DcRefine.new.machine c.args.coefs.now c.take_run-in-DcRefine.new.coefs c.args.bytes.now c.take_run-in-DcRefine.result.0 c.take_run-in-DcRefine.result.1 [] c.take_run-in-DcRefine.ensures)

pub returns-in-Ac : goal.returns-in-Ac
returns-in-Ac c = rw c.in-Ac.is (run_of (λ m. Ac m) progressive_ac any_scan is_ac c.in-Ac.machine c.take_run-in-Ac.new.machine c.args.coefs.now c.take_run-in-Ac.new.coefs c.args.bytes.now c.take_run-in-Ac.result.0 c.take_run-in-Ac.result.1 [] c.take_run-in-Ac.ensures)
