use Rattle.std.proofs.Common.{◌≡◌, ◌≤◌, length, refl, ap, ◌∙◌, sym, subst, arith}
use Rattle.jpg_spec.specs.FrameHeader.{IsFrame}
use Rattle.jpg_spec.specs.Geometry.{Frame, units}
use Rattle.jpg_spec.specs.Segments.{head_components}
use Rattle.jpg_coefs.specs.Sinks.{at}
use Rattle.jpg_coefs.specs.ScanUnits.{CanGive, IsUngiven, new_scan}
use Rattle.jpg_coefs.proofs.Places.{some_places}
use Rattle.jpg_coefs.proofs.ScanGiven.{after_all, can_give_all}
use Rattle.jpg_coefs.proofs.intervals.put_scan.Goals as goal

pub give-requires-clause-some : goal.give-requires-clause-some
give-requires-clause-some g c =
    let f = g.V.BlockView.numbers c.args.view.now in
    let is : IsFrame f = subst (λ f. IsFrame f) c.frame-frame.ensures c.checked.ensures in
    let some = some_places f c.args.scan.head.now is c.requires.scan in
    let e = c.left-all.ensures ∙ c.new-units.ensures.left ∙ ap (λ (f : Frame). length (units f (head_components c.args.scan.head.now))) c.frame-frame.ensures in
    (omega (arith, some, e), omega (arith, c.left-all.ensures))

pub give-requires-clause-can : goal.give-requires-clause-can
give-requires-clause-can g c =
    let k = g.S.UnitSink.kind in
    let f = g.V.BlockView.numbers c.args.view.now in
    let blocks = g.V.BlockView.blocks c.args.view.now in
    let now = at c.args.sink.now c.args.out.now c.args.desk.now in
    let units = c.new-units.result in
    let is : IsFrame f = subst (λ f. IsFrame f) c.frame-frame.ensures c.checked.ensures in
    let new = subst (λ (f : Frame). IsUngiven f c.args.scan.head.now c.args.scan.interval units) c.frame-frame.ensures c.new-units.ensures in
    let scan = new_scan f c.args.scan.head.now c.args.scan.interval blocks now in
    (scan, subst (λ n. CanGive k scan f blocks n units now) (sym c.left-all.ensures) (can_give_all k f c.args.scan.head.now c.args.scan.interval blocks units now is c.requires.scan new c.requires.begins))

pub returns : goal.returns
returns g c =
    let k = g.S.UnitSink.kind in
    let f = g.V.BlockView.numbers c.args.view.now in
    let blocks = g.V.BlockView.blocks c.args.view.now in
    let now = at c.args.sink.now c.args.out.now c.args.desk.now in
    let units = c.new-units.result in
    let is : IsFrame f = subst (λ f. IsFrame f) c.frame-frame.ensures c.checked.ensures in
    let new = subst (λ (f : Frame). IsUngiven f c.args.scan.head.now c.args.scan.interval units) c.frame-frame.ensures c.new-units.ensures in
    let scan = new_scan f c.args.scan.head.now c.args.scan.interval blocks now in
    let can = subst (λ n. CanGive k scan f blocks n units now) (sym c.left-all.ensures) (can_give_all k f c.args.scan.head.now c.args.scan.interval blocks units now is c.requires.scan new c.requires.begins) in
    after_all k scan c.left-all.result units.left c.give.result c.give.new.self (at c.give.new.sink c.give.new.out c.give.new.desk) c.left-all.ensures (c.give.ensures.given scan can)
