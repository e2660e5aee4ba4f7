use Rattle.std.proofs.Common.{rules, ◌≡◌, ◌+◌, ◌*◌, ◌≤◌, ◌++◌, length, map, ap, ◌∙◌}
use Rattle.std.proofs.lemmas.List.{with_items_is}
use Rattle.std.specs.Vec.{with_items}
use Rattle.jpg_spec.specs.Lists.{below}
use Rattle.jpg_coefs.specs.Picture.{map_of}
use Rattle.jpg_color.specs.KeptRows.{KeptRows, stride, kept_rows_of, last_row, row_in, sample_in, with_block_rows}
use Rattle.jpg_color.proofs.RowsPut.{kept_by, rows_put, room_is}
use Rattle.jpg_color.proofs.decode.sample_rows.SampleRows.fill.Goals as goal

pub returns : goal.returns
returns c =
    let r = c.self.inside in
    let kept = c.keep_last-kept.result in
    let moved = c.keep_last-kept.new.samples in
    let put = c.put_rows.new.samples in
    let blocks = map_of c.args.of.coefs.now in
    let first = with_items r.samples moved in
    let l1 : length moved ≡ r.samples.len = c.keep_last-kept.ensures.long ∙ c.deref_mut.ensures.len in
    let i1 : c.deref_mut-2.result.now ≡ moved = c.deref_mut-2.ensures.value ∙ with_items_is r.samples moved l1 in
    let l2 : length put ≡ r.samples.len = c.put_rows.ensures.long ∙ c.deref_mut-2.ensures.len in
    let long : length c.deref_mut-2.result.now ≡ r.room * stride r.wide = c.deref_mut-2.ensures.len ∙ c.self.invariant.4 in
    let few : kept + c.args.of.count ≤ r.room = search rules in
    ap (kept_by r.wide r.room)
    (ap (kept_rows_of r.wide (kept + c.args.of.count)) (with_items_is first put l2)
    ∙ rows_put r.wide kept c.args.of.count (sample_in c.args.of.quants.now blocks c.args.of.component c.args.of.first) c.deref_mut-2.result.now put (search rules)
    (room_is r.wide r.room (kept + c.args.of.count) c.deref_mut-2.result.now few long) c.put_rows.ensures
    ∙ ap (λ rows. rows ++ map (row_in r.wide c.args.of.quants.now blocks c.args.of.component c.args.of.first) (below c.args.of.count))
    (ap (kept_rows_of r.wide kept) i1 ∙ c.keep_last-kept.ensures.rows ∙ ap (λ bytes. last_row (kept_rows_of r.wide r.len bytes)) c.deref_mut.ensures.value))
    ∙ ap (λ (k : KeptRows). with_block_rows k c.args.of.quants.now blocks c.args.of.component c.args.of.first c.args.of.count) c.self.view_is
