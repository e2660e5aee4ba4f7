use Rattle.std.proofs.Common.{◌≡◌, length, arith}
use Rattle.jpg_spec.specs.Geometry.{units}
use Rattle.jpg_spec.specs.Segments.{head_components}
use Rattle.jpg_coefs.proofs.Places.{some_places}
use Rattle.jpg_coefs.proofs.intervals.ScanUnits.new.Goals as goal

pub each_interval-each-requires : goal.each_interval-each-requires
each_interval-each-requires c =
    let some = some_places c.args.frame.now c.args.head.now c.checked.ensures c.requires in
    omega (arith, some, c.scan_units-left.ensures)
