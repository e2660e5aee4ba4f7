use Rattle.std.proofs.Common.{refl, ap, subst, arith, length}
use Rattle.std.specs.Prelude.{Result, Ok, Err}
use Rattle.jpg_coefs.specs.declared.machine.UnitFault.{UnitFault}
use Rattle.jpg_coefs.specs.declared.machine.UnitStep.{UnitStep}
use Rattle.jpg_coefs.specs.declared.machine.UnitStep.TheVariants as step
use Rattle.jpg_prog_read.specs.RepresentsAcScan.{BandsGoOn}
use Rattle.jpg_prog_read.proofs.AcUnits.{in_unit_of, some_left}
use Rattle.jpg_prog_read.proofs.AcBits.{all_taken, fault_taken, done_taken, whole_after}
use Rattle.jpg_prog_read.proofs.Takings.{took_further, took_more, takes_all, takes_to}
use Rattle.jpg_prog_read.proofs.ac_reader.AcReader.read.Goals as goal

pub unit_bits-requires-clause-unit : goal.unit_bits-requires-clause-unit
unit_bits-requires-clause-unit c =
    let l = c.loop-self in let t = l.invariant.taken in
    (t.interval, t.bits, l.coefs, in_unit_of l.self t.interval t.bits l.coefs l.invariant.begun t.standing)

pub returns-in-More : goal.returns-in-More
returns-in-More c =
    let l = c.loop-self in let r = c.in-More.ensures in
    takes_all (took_further l.invariant.taken (all_taken l.self c.unit_bits.new.self l.coefs l.store c.unit_bits.new.store l.invariant.begun r.same r.takes)) (ap length (r.all refl))

pub returns-in-Fault : goal.returns-in-Fault
returns-in-Fault c =
    let l = c.loop-self in let r = c.in-Fault.ensures in
    takes_to l.invariant.taken (fault_taken l.self c.unit_bits.new.self l.coefs l.store c.unit_bits.new.store c.in-Fault.fault l.invariant.begun r.same r.takes)

pub go_on-requires : goal.go_on-requires
go_on-requires c =
    let l = c.loop-self in let t = l.invariant.taken in let r = c.in-Done.ensures in
    let w = whole_after l.self c.unit_bits.new.self (r.takes).bits l.coefs t.interval t.bits l.invariant.begun r.same (r.takes).stays (r.takes).comes t.standing in
    (t.interval, w.0, w.1)

pub returns-in-Err : goal.returns-in-Err
returns-in-Err c =
    let l = c.loop-self in let r = c.in-Done.ensures in
    takes_to l.invariant.taken
    (done_taken l.self c.unit_bits.new.self l.coefs l.store c.unit_bits.new.store (Err c.in-Err.fault) c.go_on.new.self c.go_on.new.coefs l.invariant.begun r.same r.takes c.in-Err.ensures.goes)

pub returns-in-Ok-IntervalDone : goal.returns-in-Ok-IntervalDone
returns-in-Ok-IntervalDone c =
    let l = c.loop-self in let r = c.in-Done.ensures in
    let S : UnitStep → Type 0 = λ s. BandsGoOn c.unit_bits.new.self l.coefs (Ok s) c.go_on.new.self c.go_on.new.coefs in
    let goes = subst S c.in-Ok-IntervalDone.field-0-is c.in-Ok-IntervalDone.ensures.goes in
    takes_to l.invariant.taken
    (done_taken l.self c.unit_bits.new.self l.coefs l.store c.unit_bits.new.store (Ok step.IntervalDone) c.go_on.new.self c.go_on.new.coefs l.invariant.begun r.same r.takes goes)

pub returns-then-saturating_sub-most : goal.returns-then-saturating_sub-most
returns-then-saturating_sub-most c =
    let l = c.loop-self in let t = l.invariant.taken in let r = c.in-Done.ensures in
    let S : UnitStep → Type 0 = λ s. BandsGoOn c.unit_bits.new.self l.coefs (Ok s) c.go_on.new.self c.go_on.new.coefs in
    let goes = subst S c.in-Ok-More.field-0-is c.in-Ok-More.ensures.goes in
    let to = takes_to t (done_taken l.self c.unit_bits.new.self l.coefs l.store c.unit_bits.new.store (Ok step.More) c.go_on.new.self c.go_on.new.coefs l.invariant.begun r.same r.takes goes) in
    let w = whole_after l.self c.unit_bits.new.self (r.takes).bits l.coefs t.interval t.bits l.invariant.begun r.same (r.takes).stays (r.takes).comes t.standing in
    (to.0, to.1, (to.2, omega (arith, c.if-saturating_sub-most.true, c.saturating_sub.ensures, c.requires.some), some_left c.go_on.new.self t.interval w.0 c.go_on.new.coefs (goes t.interval w.0 w.1)))

pub loop-self-preserved : goal.loop-self-preserved
loop-self-preserved c =
    let l = c.loop-self in let r = c.in-Done.ensures in
    let S : UnitStep → Type 0 = λ s. BandsGoOn c.unit_bits.new.self l.coefs (Ok s) c.go_on.new.self c.go_on.new.coefs in
    let goes = subst S c.in-Ok-More.field-0-is c.in-Ok-More.ensures.goes in
    record {
      taken = took_more l.invariant.taken (done_taken l.self c.unit_bits.new.self l.coefs l.store c.unit_bits.new.store (Ok step.More) c.go_on.new.self c.go_on.new.coefs l.invariant.begun r.same r.takes goes)
          (omega (arith, c.if-saturating_sub-most.false, c.saturating_sub.ensures, c.requires.some));
      begun = c.in-Ok-More.ensures.begun (ap (λ (s : UnitStep). (let r : Result UnitStep UnitFault = Ok s in r)) c.in-Ok-More.field-0-is);
    }
