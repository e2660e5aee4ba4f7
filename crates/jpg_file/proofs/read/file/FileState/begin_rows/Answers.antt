use Rattle.std.proofs.Common.{◌∙◌, Some, rules, ap, refl, sym, ◌∷◌}
use Rattle.jpg_spec.specs.Geometry.{Frame}
use Rattle.jpg_spec.proofs.Basics.Common.{clash}
use Rattle.jpg_spec.specs.Items.{segments_of}
use Rattle.jpg_base.specs.declared.stop.Stop.TheVariants as stop
use Rattle.jpg_markers.specs.Reading.{Reading}
use Rattle.jpg_file.specs.Read.File.{limits_of, settings_of}
use Rattle.jpg_file.specs.Read.InData.{zero_picture}
use Rattle.jpg_file.specs.Read.Strips.{contents_held, rows_of_all, seen_of}
use Rattle.jpg_file.specs.Read.Window.{rows_in}
use Rattle.jpg_file.specs.declared.read.file.FileState.{FileState}
use Rattle.jpg_file.specs.declared.read.window.Window.TheVariants as window
use Rattle.jpg_file.proofs.Headers.HeaderTaken.{are_in}
use Rattle.jpg_file.proofs.ByRow.StripBegin.{first_begins, first_of, head_counts, rows_begun, rows_known, zero_sizes, zero_whole, head_rows, kept_frame, begins_told, components_all}
use Rattle.jpg_file.proofs.ByRow.StripWorks.{begin_fails}
use Rattle.jpg_file.proofs.read.file.FileState.begin_rows.Goals as goal

pub new-requires-clause-there : goal.new-requires-clause-there
new-requires-clause-there c =
    let o = c.requires.stands in
    are_in c.args.frame.now c.args.head.now (c.requires.finds (limits_of c.args.self.now) o.0 o.1).is_head

pub new-requires-clause-all : goal.new-requires-clause-all
new-requires-clause-all c =
    let o = c.requires.stands in
    components_all c.args.frame.now c.args.head.now (c.requires.finds (limits_of c.args.self.now) o.0 o.1).all

pub begin_head-requires : goal.begin_head-requires
begin_head-requires c =
    let w = c.args.self.now in
    let f = c.args.frame.now in
    let o = c.requires.stands in
    let h = o.1 in
    let k = c.requires.finds (limits_of w) o.0 h in
    (zero_picture f, zero_sizes f, (o.0, h.items, h.blocks, zero_whole (limits_of w) o.0 w f h k.framed c.checked.ensures (first_of (limits_of w) o.0 w h c.requires.first)))

-- IT DOESN'T BEGIN

pub returns-in-Err : goal.returns-in-Err
returns-in-Err c =
    let w = c.args.self.now in
    let f = c.args.frame.now in
    let e = c.in-Err.ensures in
    begin_fails (seen_of w) (stop.Fault c.in-Err.fault) c.begin_head.new.self (ap rows_in e.window ∙ c.requires.none) e.keeps.by_row
    (λ bytes h. (let whole = zero_whole (limits_of w) bytes w f h (c.requires.finds (limits_of w) bytes h).framed c.checked.ensures (first_of (limits_of w) bytes w h c.requires.first) in
    let a = e.after (zero_picture f) (zero_sizes f) bytes h.items h.blocks whole in
    (a.1, a.0))) e.head e.keeps.keeping

-- IT BEGINS

pub strip_of-requires : goal.strip_of-requires
strip_of-requires c =
    let w = c.args.self.now in
    let o = c.requires.stands in
    let b = begins_told (limits_of w) o.0 w c.note_head.new.self (first_begins w c.begin_head.new.self c.note_head.new.self c.args.frame.now c.args.head.now c.reserve.new.self c.checked.ensures c.requires.finds c.requires.first c.in-Ok-begin_head.ensures.after c.reserve.ensures.same c.note_head.ensures o.0 o.1) in
    (limits_of w, (0xda, contents_held w) ∷ segments_of (o.1).items, b.holds)

pub returns-else-is_err : goal.returns-else-is_err
returns-else-is_err c =
    let w = c.args.self.now in
    let e = c.in-Ok-begin_head.ensures in
    let t = c.in-Ok.ensures in
    let o = c.requires.stands in
    let k = c.requires.finds (limits_of w) o.0 o.1 in
    let begins = first_begins w c.begin_head.new.self c.note_head.new.self c.args.frame.now c.args.head.now c.reserve.new.self c.checked.ensures c.requires.finds c.requires.first e.after c.reserve.ensures.same c.note_head.ensures in
    record {
      after = λ bytes h.
          rows_begun (limits_of w) bytes w c.note_head.new.self (begins bytes h) c.in-Ok.rows e.head (λ scan has. e.left bytes h.items h.blocks (zero_picture c.args.frame.now) scan (zero_whole (limits_of w) bytes w c.args.frame.now h (c.requires.finds (limits_of w) bytes h).framed c.checked.ensures (first_of (limits_of w) bytes w h c.requires.first)) has refl)
          t.zero t.at t.waiting t.first (window.Row c.in-Ok.rows) (Some c.strip_of.result);
      begins = λ head is.
          t.count ∙ head_rows c.args.frame.now c.args.head.now k.is_head k.all
          ∙ ap (λ (g : Frame). rows_of_all g) (sym (kept_frame (limits_of w) o.0 w c.note_head.new.self head (begins o.0 o.1) (e.head ∙ c.requires.first) is));
      known = λ bytes h.
          rows_known _ _ _ _ _ _ c.strip_of.result (begins_told (limits_of w) bytes w c.note_head.new.self (begins bytes h)) (t.count ∙ head_counts _ _ _ _ _ (c.requires.finds (limits_of w) bytes h)) c.strip_of.ensures;
      no = tt;
      stops = tt;
      plain = λ by. absurd (clash w.by_row c.requires.by_row by);
      none = λ by first front byte none h. tt;
      sparing = λ none. record {
        keeping = ap (λ (x : FileState). x.items.held.keeping) c.note_head.ensures ∙ ap (λ s. s.0) e.keeps.keeping ∙ none;
        scanned = ap (λ (x : FileState). x.items.held.scanned) c.note_head.ensures ∙ e.scanned refl;
        room = search rules;
      };
      head = tt;
      keeping = ap (λ (x : FileState). settings_of x) c.note_head.ensures ∙ ap (λ (r : Reading). (c.begin_head.new.self.items.held.keeping, r.limits)) c.reserve.ensures.same ∙ e.keeps.keeping;
      by_row = ap (λ (x : FileState). x.by_row) c.note_head.ensures ∙ e.keeps.by_row;
    }
