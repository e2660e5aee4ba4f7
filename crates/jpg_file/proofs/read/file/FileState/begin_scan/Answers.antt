use Rattle.std.proofs.Common.{◌∙◌, Err, Ok, sym, ap, subst}
use Rattle.jpg_file.specs.declared.read.window.Window.{Window}
use Rattle.jpg_file.specs.Read.File.{limits_of, HeadWhole}
use Rattle.jpg_file.specs.declared.read.file.FileState.{FileState}
use Rattle.jpg_file.proofs.Files.FileSteps.{head_after, head_goes, head_taken, head_whole, room_made}
use Rattle.jpg_file.proofs.read.file.FileState.begin_scan.Goals as goal

pub unreachable-requires : goal.unreachable-requires
unreachable-requires c =
    let old = c.args.self.now in
    let room = c.make_room.new.self in
    let o = c.requires.stands in
    let k = head_whole (limits_of old) o.0 old room o.1 c.requires.none (room_made old room c.make_room.result c.make_room.ensures.made (sym c.is_err.ensures.value ∙ c.if-is_err.false)) in
    c.in_default.not-All k.coefs k.has

pub begin_head-requires : goal.begin_head-requires
begin_head-requires c =
    let old = c.args.self.now in
    let room = c.make_room.new.self in
    let o = c.requires.stands in
    let h = o.1 in
    let made = room_made old room c.make_room.result c.make_room.ensures.made (sym c.is_err.ensures.value ∙ c.if-is_err.false) in
    let same = ap (λ (w : FileState). limits_of w) made.is in
    let k = subst (λ l. HeadWhole l o.0 h.items h.blocks room) (sym same) (head_whole (limits_of old) o.0 old room h c.requires.none made) in
    (c.in-All.coefs, c.checked.ensures.sizes, (o.0, h.items, h.blocks, subst (λ (p : Window). HeadWhole (limits_of room) o.0 h.items h.blocks (record room { window = p })) c.in-All.is k))

pub returns-in-Ok-clause-after : goal.returns-in-Ok-clause-after
returns-in-Ok-clause-after c = λ bytes h.
    let old = c.args.self.now in
    let room = c.make_room.new.self in
    let taken = c.begin_head.new.self in
    head_goes (limits_of old) bytes old room taken _ h c.requires.none (room_made old room c.make_room.result c.make_room.ensures.made (sym c.is_err.ensures.value ∙ c.if-is_err.false))
    (head_taken room taken c.in-All.coefs (Ok tt) c.in-All.is c.in-Ok.ensures.window (c.in-Ok.ensures.after c.in-All.coefs c.checked.ensures.sizes)) c.in-Ok.ensures.head c.note_head.ensures

pub returns-in-Err-clause-after : goal.returns-in-Err-clause-after
returns-in-Err-clause-after c = λ bytes h.
    let old = c.args.self.now in
    let room = c.make_room.new.self in
    let taken = c.begin_head.new.self in
    let made = room_made old room c.make_room.result c.make_room.ensures.made (sym c.is_err.ensures.value ∙ c.if-is_err.false) in
    let a = head_after (limits_of old) bytes old room (Err c.in-Err.fault) taken h c.requires.none made
    (head_taken room taken c.in-All.coefs (Err c.in-Err.fault) c.in-All.is c.in-Err.ensures.window (c.in-Err.ensures.after c.in-All.coefs c.checked.ensures.sizes)) in
    (a.1, a.0)
