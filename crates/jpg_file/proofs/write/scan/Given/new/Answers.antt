use Rattle.std.proofs.Common.{ap}
use Rattle.jpg_spec.specs.Scan.{TablesInForce}
use Rattle.jpg_spec_write.specs.FileText.{Written}
use Rattle.jpg_file.proofs.Writing.ScansDue.{none_by}
use Rattle.jpg_file.proofs.write.scan.Given.new.Goals as goal

pub returns : goal.returns
returns c =
    let of : TablesInForce → Written = λ tables. record { tables = tables; interval = 0 } in
    ap of (none_by c.new.result c.new.ensures.dc c.new.ensures.ac)
