use Rattle.std.proofs.Common.{◌∙◌}
use Rattle.jpg_pnm_bmp.proofs.BmpParts.{row_is_next, on_ok}
use Rattle.jpg_pnm_bmp.proofs.write.bmp.BmpEnd.make_part.Goals as goal

pub returns-clause-next : goal.returns-clause-next
returns-clause-next c =
    let b = c.args.self.now in
    let is = row_is_next b.info c.unwrap-info.result b.taken b.parts c.bytes_of_row-long.result b.rows.items c.deref.result.now
    c.unwrap-info.ensures c.bytes_of_row-long.ensures.bytes c.deref.ensures.value c.if-self-eq0.false c.requires.before in
    on_ok c.make_row.result (λ e. e ∙ is) c.make_row.ensures
