use Rattle.std.proofs.Common.{inr}
use Rattle.jpg_prog_read.proofs.AcUnits.{interval_done}
use Rattle.jpg_prog_read.proofs.ac_reader.AcReader.go_on.Goals as goal

pub pass-requires : goal.pass-requires
pass-requires c =
    let w = c.loop-self.invariant.has_whole in
    (w.0, w.1, c.put.ensures.puts w.0 w.1 w.2)

pub returns-then-self-eq0-clause-goes : goal.returns-then-self-eq0-clause-goes
returns-then-self-eq0-clause-goes c = λ i bits w.
    interval_done c.pass.new.self i bits c.put.new.coefs c.if-self-eq0.true (c.pass.ensures.passes i bits (c.put.ensures.puts i bits (c.loop-self.invariant.leads i bits w)))

pub take-requires-clause-between : goal.take-requires-clause-between
take-requires-clause-between c =
    let w = c.loop-self.invariant.has_whole in
    (w.0, w.1, c.pass.ensures.passes w.0 w.1 (c.put.ensures.puts w.0 w.1 w.2))

pub returns-in-More-clause-goes : goal.returns-in-More-clause-goes
returns-in-More-clause-goes c = λ i bits w.
    inr (c.in-More.ensures.takes i bits (c.pass.ensures.passes i bits (c.put.ensures.puts i bits (c.loop-self.invariant.leads i bits w))))

pub returns-in-Fault-clause-goes : goal.returns-in-Fault-clause-goes
returns-in-Fault-clause-goes c =
    let w = c.loop-self.invariant.has_whole in
    absurd (c.in-Fault.ensures.quiet w.0 w.1 (c.pass.ensures.passes w.0 w.1 (c.put.ensures.puts w.0 w.1 w.2)))

pub loop-self-preserved : goal.loop-self-preserved
loop-self-preserved c =
    let w = c.loop-self.invariant.has_whole in
    record {
      has_whole = (w.0, w.1, c.in-Done.ensures.takes w.0 w.1 (c.pass.ensures.passes w.0 w.1 (c.put.ensures.puts w.0 w.1 w.2)));
      leads = λ i bits w. c.in-Done.ensures.takes i bits (c.pass.ensures.passes i bits (c.put.ensures.puts i bits (c.loop-self.invariant.leads i bits w)));
    }
