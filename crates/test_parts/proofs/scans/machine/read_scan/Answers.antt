use Rattle.std.proofs.Common.{◌∙◌, sym, ap}
use Rattle.jpg_spec.specs.Geometry.{is_progressive}
use Rattle.test_parts.proofs.SeqScans.{all_scan}
use Rattle.test_parts.proofs.scans.machine.read_scan.Goals as goal

pub begin-requires-clause-scan : goal.begin-requires-clause-scan
begin-requires-clause-scan c =
    all_scan c.args.frame.now c.all_components-head.result c.args.tables.now
    (sym (c.is_progressive.ensures ∙ ap is_progressive c.process.ensures) ∙ c.if-is_progressive.false)
    c.checked.ensures.count_low c.checked.ensures.count_high c.requires.tables c.all_components-head.ensures
