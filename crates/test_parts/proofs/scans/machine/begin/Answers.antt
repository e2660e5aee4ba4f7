use Rattle.std.proofs.Common.{sym, []}
use Rattle.jpg_seq.specs.Reader.{SeqReady}
use Rattle.test_parts.proofs.Begun.{only_interval, is_of_scan}
use Rattle.test_parts.proofs.scans.machine.begin.Goals as goal

pub restart-requires-clause-ready : goal.restart-requires-clause-ready
restart-requires-clause-ready c =
    let i = only_interval c.args.frame.now c.args.head.now c.args.tables.now c.args.coefs.now in
    (i, c.new-machine.ensures i (is_of_scan c.args.frame.now c.args.head.now c.args.tables.now c.args.coefs.now c.requires.frame c.requires.blank), sym c.scan_units-units.ensures)

pub returns : goal.returns
returns c =
    let i = only_interval c.args.frame.now c.args.head.now c.args.tables.now c.args.coefs.now in
    let r : SeqReady c.new-machine.result i = c.new-machine.ensures i (is_of_scan c.args.frame.now c.args.head.now c.args.tables.now c.args.coefs.now c.requires.frame c.requires.blank) in
    (i, [], c.restart.ensures.begun i r (sym c.scan_units-units.ensures))
