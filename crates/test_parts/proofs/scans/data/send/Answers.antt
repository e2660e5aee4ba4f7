use Rattle.std.proofs.Common.{◌∙◌, sym, ap, subst}
use Rattle.jpg_spec.specs.Geometry.{bounds_of, is_progressive}
use Rattle.jpg_spec.specs.Elements.{IsBlockIn}
use Rattle.test_parts.proofs.SeqScans.{all_scan}
use Rattle.test_parts.proofs.scans.data.send.Goals as goal

pub write_seq_scan-requires-clause-scan : goal.write_seq_scan-requires-clause-scan
write_seq_scan-requires-clause-scan c =
    all_scan c.args.frame.now c.all_components-head.result c.typical_set-tables.result
    (sym (c.is_progressive.ensures ∙ ap is_progressive c.process.ensures) ∙ c.if-is_progressive.false)
    c.checked.ensures.count_low c.checked.ensures.count_high c.typical_set-tables.ensures c.all_components-head.ensures

pub write_seq_scan-requires-clause-blocks : goal.write_seq_scan-requires-clause-blocks
write_seq_scan-requires-clause-blocks c = λ i x y r. subst (λ n. IsBlockIn (bounds_of n) c.args.block.now) (sym (sym c.precision.ensures ∙ c.if-precision-ne8.false)) c.requires
