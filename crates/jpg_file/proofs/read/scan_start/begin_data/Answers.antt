use Rattle.std.proofs.Common.{◌≡◌, ◌∙◌, ◌*◌, ◌-◌, ℕ, Some, refl, ap, subst, sym, arith}
use Rattle.jpg_spec.specs.Geometry.{mcu_units}
use Rattle.jpg_spec.specs.Segments.{head_components}
use Rattle.jpg_spec.proofs.Basics.Common.{some_once}
use Rattle.jpg_spec.proofs.Places.PlacesSome.{head_units_some}
use Rattle.jpg_file.specs.Read.ScanStart.{IsBegun, before_data}
use Rattle.jpg_file.specs.declared.read.scan.InScan.{InScan}
use Rattle.jpg_file.proofs.Scans.Machines.{NewScan, start_of, first_interval, first_of_scan, in_data, counted, due_after}
use Rattle.jpg_file.proofs.ByRow.RowTurns.{begun_left}
use Rattle.jpg_file.proofs.read.scan_start.begin_data.Goals as goal

pub restart-requires-clause-ready : goal.restart-requires-clause-ready
restart-requires-clause-ready c =
    let now = c.requires.0 in
    let sizes = c.requires.1 in
    let o = c.requires.2 in
    let f = c.args.frame.now in
    let head = c.args.head.now in
    let x : NewScan = record { limits = o.0; items = o.1; blocks = o.2; contents = o.3; bytes = o.4; frame = f; head = head; set = c.args.tables.now; interval = c.args.interval; now = now; begins = o.5 } in
    let s = start_of x in
    let n : c.from.result * c.from-2.result ≡ c.args.interval * mcu_units f (head_components head) = ap (λ (k : ℕ). k * c.from-2.result) c.from.ensures ∙ ap (λ (k : ℕ). c.args.interval * k) (c.from-2.ensures ∙ c.mcu_units.ensures.value) in (
      first_interval x s,
      c.put_tables.ensures _ (first_of_scan x s sizes),
      counted _ _ _ _ _ _ (s.cut).many c.first_units-first.ensures.value n c.scan_units-all.ensures,
    )

pub restart-requires-clause-some : goal.restart-requires-clause-some
restart-requires-clause-some c =
    let o = c.requires.2 in
    let h = (o.5).header in
    let some = head_units_some c.args.frame.now c.args.head.now h.is_frame h.is_head in
    c.first_units-first.ensures.some (omega (arith, some, c.scan_units-all.ensures))

pub returns : goal.returns
returns c =
    let f = c.args.frame.now in let head = c.args.head.now in
    let m = c.restart.new.self in let first = c.first_units-first.result in let all = c.scan_units-all.result in
    let each = c.from.result * c.from-2.result in let left = all - first in
    subst (λ (s : InScan). IsBegun f head c.args.tables.now c.args.interval (Some (record s { machine = m }))) (some_once (before_data c.put_bare.ensures.0 each left) c.in-Some.scan (sym c.put_bare.ensures.1 ∙ c.in-Some.is)) (
      before_data m each left,
      refl,
      refl,
      begun_left (before_data m each left) all first refl refl c.restart.ensures.left c.first_units-first.ensures.most ∙ c.scan_units-all.ensures,
      λ now sizes limits items blocks contents bytes b.
          (let x : NewScan = record { limits = limits; items = items; blocks = blocks; contents = contents; bytes = bytes; frame = f; head = head; set = c.args.tables.now; interval = c.args.interval; now = now; begins = b } in
          let s = start_of x in
          let n : each ≡ c.args.interval * mcu_units f (head_components head) = ap (λ (k : ℕ). k * c.from-2.result) c.from.ensures ∙ ap (λ (k : ℕ). c.args.interval * k) (c.from-2.ensures ∙ c.mcu_units.ensures.value) in
          let many = counted _ _ _ _ _ _ (s.cut).many c.first_units-first.ensures.value n c.scan_units-all.ensures in
          in_data x s sizes m each left (c.restart.ensures.begun (first_interval x s) (c.put_tables.ensures (first_interval x s) (first_of_scan x s sizes)) many) n (due_after _ _ s.cut first all many c.scan_units-all.ensures)),
    )
