use Rattle.std.proofs.Common.{rules, ◌≡◌, ◌+◌, ◌*◌, ◌≤◌, [], length, take, drop, slice_index_or, sym, ap, ◌∙◌, subst, arith}
use Rattle.jpg_color.specs.KeptRows.{KeptRows, stride}
use Rattle.jpg_color.proofs.RowsPut.{rows_count, row_at, row_ends}
use Rattle.jpg_color.proofs.decode.sample_rows.SampleRows.row.Goals as goal

pub part-requires : goal.part-requires
part-requires c =
    let r = c.self.inside in
    let n : length c.args.self.now.rows ≡ r.len = sym (ap (λ (k : KeptRows). length k.rows) c.self.view_is) ∙ rows_count r.wide r.len r.samples.items in
    subst (λ line. c.args.i * line + r.wide ≤ length c.deref.result.now) (sym c.line_of.ensures.value)
    (row_ends r.wide r.len c.args.i r.room c.deref.result.now (omega (arith, c.requires, n)) c.self.invariant.3 (search rules) (c.deref.ensures.len ∙ c.self.invariant.4))

pub returns-clause-value : goal.returns-clause-value
returns-clause-value c =
    let r = c.self.inside in
    let n : length c.args.self.now.rows ≡ r.len = sym (ap (λ (k : KeptRows). length k.rows) c.self.view_is) ∙ rows_count r.wide r.len r.samples.items in
    c.part.ensures.value
    ∙ ap (λ line. take r.wide (drop (c.args.i * line) c.deref.result.now)) c.line_of.ensures.value
    ∙ ap (λ bytes. take r.wide (drop (c.args.i * stride r.wide) bytes)) c.deref.ensures.value
    ∙ sym (row_at r.wide r.len c.args.i r.samples.items (omega (arith, c.requires, n)))
    ∙ ap (λ (k : KeptRows). slice_index_or k.rows c.args.i []) c.self.view_is
