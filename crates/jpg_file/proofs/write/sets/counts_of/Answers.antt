use Rattle.std.proofs.Common.{subst}
use Rattle.jpg_spec.specs.FrameHeader.{IsFrame}
use Rattle.jpg_file.proofs.Writing.FewSymbols.{scan_counted}
use Rattle.jpg_file.proofs.write.sets.counts_of.Goals as goal

pub returns-then-is_progressive : goal.returns-then-is_progressive
returns-then-is_progressive g c =
    let counts = c.count_scan.ensures in
    scan_counted _ _ _ _ _ (subst IsFrame c.frame.ensures c.checked.ensures) c.requires c.count_scan.result counts.dc counts.ac

pub returns-else-is_progressive : goal.returns-else-is_progressive
returns-else-is_progressive g c =
    let counts = c.count_seq_scan.ensures in
    scan_counted _ _ _ _ _ (subst IsFrame c.frame.ensures c.checked.ensures) c.requires c.count_seq_scan.result counts.dc counts.ac
