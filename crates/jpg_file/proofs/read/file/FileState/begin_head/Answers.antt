use Rattle.std.proofs.Common.{◌≡◌, ◌∙◌, true, false, refl, subst, sym, ap, arith, is_none}
use Rattle.jpg_spec.specs.Geometry.{Frame, component_at}
use Rattle.jpg_spec.specs.InForce.{head_in}
use Rattle.jpg_spec.specs.QuantContents.{Slots, quant_in}
use Rattle.jpg_spec.specs.History.{names}
use Rattle.jpg_spec.specs.Items.{segments_of}
use Rattle.jpg_spec.proofs.Headers.FrameFound.{framed}
use Rattle.jpg_file.specs.Read.SegmentState.{AddsScan, segments_view}
use Rattle.jpg_markers.specs.Reading.{reading_of}
use Rattle.jpg_file.specs.Read.File.{waiting_bytes, with_picture, limits_of}
use Rattle.jpg_file.proofs.Headers.InForce.{begun_more, header_room, table_there}
use Rattle.jpg_file.proofs.Headers.HeaderTaken.{head_begins, head_shows}
use Rattle.jpg_file.proofs.Scans.ScanLeft.{after_head}
use Rattle.jpg_file.proofs.read.file.FileState.begin_head.Goals as goal

pub begin_data-requires : goal.begin_data-requires
begin_data-requires c =
    let q = c.requires.0 in
    let o = c.requires.2 in
    let r = with_picture c.args.self.now q in
    let b = c.args.self.now.begun in
    let f = c.copy-frame.result in
    let begins = head_begins (limits_of r) o.0 o.1 o.2 r f c.in-Some.held q c.contents.result.now o.3 c.in-Some.is c.copy-frame.ensures refl c.contents.ensures c.in-Ok.head c.tables-tables.result c.tables-tables.ensures c.in-Ok.ensures in
    (q, c.requires.1, (limits_of r, o.1, o.2, (reading_of r.items.segments).contents, o.0, begins.0))

pub returns-in-Err-clause-after : goal.returns-in-Err-clause-after
returns-in-Err-clause-after c = λ q sizes bytes items blocks k.
    let r = with_picture c.args.self.now q in
    let b = c.args.self.now.begun in
    let f = c.copy-frame.result in
    head_shows (limits_of r) bytes items blocks r f c.in-Some.held q c.contents.result.now k c.in-Some.is c.copy-frame.ensures refl c.contents.ensures c.in-Err.fault c.in-Err.ensures

pub returns-in-Ok-clause-after : goal.returns-in-Ok-clause-after
returns-in-Ok-clause-after c = λ q sizes bytes items blocks k.
    let r = with_picture c.args.self.now q in
    let b = c.args.self.now.begun in
    let f = c.copy-frame.result in
    let head = c.in-Ok.head in
    let contents = (reading_of r.items.segments).contents in
    let (begins, none) = head_begins (limits_of r) bytes items blocks r f c.in-Some.held q c.contents.result.now k c.in-Some.is c.copy-frame.ensures refl c.contents.ensures head c.tables-tables.result c.tables-tables.ensures c.in-Ok.ensures in
    let begun = c.begin_data.ensures in
    let slots : Slots = (segments_view r.items.held).quants in (
      record {
        coefs = q;
        has = refl;
        scan = begun.0;
        inside = begun.1;
        at = begun.4 q sizes (limits_of r) items blocks contents bytes begins;
        head = after_head (limits_of r) bytes items blocks r.items (record r.items { held = record r.items.held { scanned = true } }) k.segment k.code refl refl;
        count = k.count;
        behind = omega (arith, k.same, ap waiting_bytes begun.2);
      },
      begun_more (limits_of r) b c.note.new.self (segments_of items) contents head slots (ap (λ (g : Frame). head_in g contents) (begins.header).framed ∙ (begins.header).header)
          (framed (segments_of items) begins.allowed)
          ((k.segment).holds).quants
          (subst (λ (g : Frame). AddsScan g slots b c.note.new.self head) (sym (begins.header).framed) c.note.ensures)
          (λ i. subst (λ (g : Frame). names head i ≡ true → is_none (quant_in slots (component_at g i).quant) ≡ false) (sym (begins.header).framed) (table_there (segments_view r.items.held) f head i none))
          k.begun,
    )

pub note-requires-clause-room : goal.note-requires-clause-room
note-requires-clause-room c =
    let o = c.requires.2 in let k = o.3 in let r = with_picture c.args.self.now c.requires.0 in
    let few = header_room (limits_of r) o.0 o.1 o.2 r.items k.segment c.args.self.now.begun.scans (k.begun).count in
    omega (arith, few, k.count)
