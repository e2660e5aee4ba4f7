use Rattle.std.proofs.Common.{◌∙◌, Ok, ap, is_some, sym}
use Rattle.jpg_file.specs.Read.File.{limits_of}
use Rattle.jpg_file.specs.Read.Window.{rows_in}
use Rattle.jpg_file.proofs.Files.FileSteps.{between_of}
use Rattle.jpg_file.proofs.ByRow.StripBytes.{strip_read}
use Rattle.jpg_file.proofs.ByRow.WindowBytes.{between_requires, between_taken, data_came, data_ready, data_taken, fault_came, marker_requires, marker_taken}
use Rattle.jpg_file.proofs.read.file.FileState.byte.Goals as goal

-- BETWEEN ITEMS

pub byte-came-requires-clause-stands : goal.byte-came-requires-clause-stands
byte-came-requires-clause-stands c =
    let w = c.args.self.now in
    let (front, g) = c.requires.stands in
    let k = strip_read (limits_of w) front (rows_in w.window) w g in
    let s = between_of (limits_of w) front (record w { window = k.0 }) k.1 (ap is_some c.in_default.is) in
    (front, s.items, s.blocks, s.at)

pub item-requires : goal.item-requires
item-requires c =
    let t = c.byte-came in
    let (front, g) = c.requires.stands in
    between_requires c.args.self.now c.in_default.is front g c.requires.room c.args.byte t.new.self t.result t.ensures.after t.ensures.taken t.ensures.keeps

pub returns-in_default : goal.returns-in_default
returns-in_default c =
    let t = c.byte-came in
    let (front, g) = c.requires.stands in
    between_taken c.args.self.now c.in_default.is front g c.requires.room c.args.byte t.new.self t.result t.ensures.after t.ensures.taken t.ensures.keeps c.item.new.self c.item.result c.item.ensures.first c.item.ensures.later
    (λ spare. t.ensures.memory spare.keeping spare.scanned spare.room)

-- INSIDE THE DATA of a scan

pub byte-requires-clause-inside : goal.byte-requires-clause-inside
byte-requires-clause-inside c = (let o = c.requires.stands in (data_ready o.0 c.args.self.now c.in-Some.scan c.in-Some.is o.1).given)

pub byte-requires-clause-none : goal.byte-requires-clause-none
byte-requires-clause-none c = (let o = c.requires.stands in (data_ready o.0 c.args.self.now c.in-Some.scan c.in-Some.is o.1).none)

pub returns-in-Ok-false : goal.returns-in-Ok-false
returns-in-Ok-false c =
    let o = c.requires.stands in
    let t = c.byte in
    let going = c.in-Ok-false.is ∙ ap Ok c.in-Ok-false.field-0-test in
    data_taken c.args.self.now c.in-Some.scan c.in-Some.is o.0 o.1 c.args.byte t.new.self t.new.window t.result c.row_step.result c.requires.room (λ over. (let z = sym going ∙ over in cc)) t.ensures.takes t.ensures.passes
    (data_came t.result c.row_step.result _ _ _ _ _ going c.left-before.ensures c.left.ensures c.row_step.ensures.is)

pub returns-in-Err : goal.returns-in-Err
returns-in-Err c =
    let o = c.requires.stands in
    let t = c.byte in
    data_taken c.args.self.now c.in-Some.scan c.in-Some.is o.0 o.1 c.args.byte t.new.self t.new.window t.result c.fault_at.result c.requires.room (λ over. (let z = sym c.in-Err.is ∙ over in cc)) t.ensures.takes t.ensures.passes
    (fault_came t.result c.in-Err.fault c.fault_at.result _ _ _ c.in-Err.is c.fault_at.ensures.is)

pub marker-came-requires-clause-stands : goal.marker-came-requires-clause-stands
marker-came-requires-clause-stands c =
    let (front, g) = c.requires.stands in
    let s = (data_ready front c.args.self.now c.in-Some.scan c.in-Some.is g).inside in
    (s.items, s.contents, (s.held).head)

pub item-requires-in-Ok-true : goal.item-requires-in-Ok-true
item-requires-in-Ok-true c =
    let (front, g) = c.requires.stands in
    let t = c.byte in
    let m = c.marker-came in
    let over = c.in-Ok-true.is ∙ ap Ok c.in-Ok-true.field-0-test in
    marker_requires c.args.self.now c.in-Some.scan c.in-Some.is front g c.requires.room c.args.byte t.new.self t.new.window t.result over t.ensures.takes t.ensures.passes (t.ensures.done over) m.new.self m.result m.ensures.after m.ensures.taken m.ensures.keeps

pub returns-in-Ok-true : goal.returns-in-Ok-true
returns-in-Ok-true c =
    let (front, g) = c.requires.stands in
    let t = c.byte in
    let m = c.marker-came in
    let over = c.in-Ok-true.is ∙ ap Ok c.in-Ok-true.field-0-test in
    let i = c.item-in-Ok-true in
    marker_taken c.args.self.now c.in-Some.scan c.in-Some.is front g c.requires.room c.args.byte t.new.self t.new.window t.result over t.ensures.takes t.ensures.passes (t.ensures.done over) m.new.self m.result m.ensures.after m.ensures.taken m.ensures.keeps
    i.new.self i.result i.ensures.first i.ensures.later
